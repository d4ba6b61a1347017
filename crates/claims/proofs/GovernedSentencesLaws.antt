-- The claims about the governed calls follow from their promises and the theorems about games.
use Rattle.std.specs.Prelude.{◌≡◌, refl, List, [], ◌∷◌, ℕ, ◌<◌, get_or}
use Rattle.std.proofs.Common.{sym, ◌∙◌, arith}
use Rattle.theory.proofs.Logic.ListLaws.{length_tabulate, get_d_tabulate}
use Rattle.theory.specs.Order.Governed.{governed, governed_passes}
use Rattle.theory.proofs.Order.GovernedLaws.{governed_class, governed_winner, length_governed_marks}
use Rattle.theory.specs.Classes.Reduction.{class_number}
use Rattle.table.specs.Table.{vertex_count, game_of}
use Rattle.table.specs.Answers.{Answer, accepted}
use Rattle.table.specs.AnswersLaws.{after_clean, get_d_written}
use Rattle.order.specs.OrderRulesLaws.{marks_swapped}
use Rattle.classes.specs.ClassesCall.{class_rows, words_of}
use Rattle.classes.specs.ClassesRulesLaws.{classes_accepted, classes_clean, classes_marks}
use Rattle.governed.specs.GovernedCall.{GovernedCall, governed_words, GovernedClassesCall}
use Rattle.governed.specs.GovernedRulesLaws.{written_governed, passed_governed, written_accepted, written_relation}
use Rattle.claims.specs.GovernedSentences.{GovernedSentences, GovernedClasses, Governs, GovernsClasses}

module _ {game marks spare counts marks' spare' : List ℕ} (call : GovernedCall game marks spare (accepted counts) marks' spare') where
  sentences : GovernedSentences game marks'
  unfolding game_of
  sentences = record {
    contains = λ relation e. passed_governed game relation e call;
    passes = written_accepted call;
    simulates = written_relation call;
    winner = λ a v w hv hw m. governed_winner (game_of game) a v w hv hw (sym (written_governed call v w hv hw) ∙ m);
  }

  swapped : GovernedCall game spare marks (accepted counts) spare' marks'
  swapped = marks_swapped length_governed_marks game marks spare counts marks' spare' call

pub governs : {game marks spare : List ℕ} {answer : Answer} {marks' spare' : List ℕ} → GovernedCall game marks spare answer marks' spare'
    → Governs game marks spare answer marks' spare'
governs call = record {
  call = call;
  marks_governed = λ counts e. sentences (rw e at call);
  spare_governed = λ counts e. sentences (swapped (rw e at call));
}

module _ {game marks spare classes counts marks' spare' classes' : List ℕ}
    (call : GovernedClassesCall game marks spare classes (accepted counts) marks' spare' classes') where
  alone : GovernedCall game marks spare (accepted (governed_passes (game_of game) ∷ [])) marks' spare'
  alone = classes_marks governed_passes call

  number : (v : ℕ) → v < vertex_count game → get_or classes' v 0 ≡ class_number (vertex_count game) (governed (game_of game)) v
  unfolding words_of
  number v h =
      let f = (classes_accepted call counts refl).0 in
      rw (call.classes_after, after_clean (class_rows game marks spare classes) (governed_words game) classes (classes_clean game marks spare classes f))
      (get_d_written (governed_words game) classes v 0 (omega (arith, length_tabulate (vertex_count game) (class_number (vertex_count game) (governed (game_of game)))))
      ∙ get_d_tabulate (vertex_count game) (class_number (vertex_count game) (governed (game_of game))) 0 v h)

  numbered : GovernedClasses game classes'
  unfolding game_of
  numbered = record {
    number = number;
    inside = λ v w hv hw e. governed_class (game_of game) v w hv hw (sym (number v hv) ∙ e ∙ number w hw);
  }

pub governs_classes : {game marks spare classes : List ℕ} {answer : Answer} {marks' spare' classes' : List ℕ}
    → GovernedClassesCall game marks spare classes answer marks' spare' classes' → GovernsClasses game marks spare classes answer marks' spare' classes'
governs_classes call = record {
  call = call;
  marks_governed = λ counts e. sentences (alone (rw e at call));
  spare_governed = λ counts e. sentences (swapped (alone (rw e at call)));
  classes_governed = λ counts e. numbered (rw e at call);
}
