-- Tables of one game: the governed calls answer and write the same.
use Rattle.std.specs.Prelude.{◌≡◌, List, ℕ}
use Rattle.std.proofs.Math.Path.{ap, ap₂}
use Rattle.std.proofs.Math.Bool.{true}
use Rattle.theory.specs.Logic.Bools.{◌&◌}
use Rattle.theory.specs.Logic.Range.{tabulate}
use Rattle.theory.specs.Order.Passes.{Rel}
use Rattle.theory.specs.Classes.Reduction.{class_count, class_number}
use Rattle.theory.specs.Order.Governed.{governed_marks, governed, governed_passes, marks_by, passes_by}
use Rattle.theory.proofs.Games.AgreementLaws.{agree_marks_by, agree_passes_by, agree_governed}
use Rattle.table.specs.Table.{game_of}
use Rattle.table.specs.Answers.{Answer}
use Rattle.table.specs.WellFormed.{WellFormed}
use Rattle.table.specs.SameGame.{SameGame}
use Rattle.table.specs.SameGameLaws.{same_agree}
use Rattle.marks.specs.Marks.{bytes}
use Rattle.order.specs.OrderCall.{bytes_of}
use Rattle.order.specs.SameOrderLaws.{same_marks}
use Rattle.order_acceptor.specs.RelationCall.{governed_pair}
use Rattle.order_acceptor.specs.SameRelationLaws.{same_direct, same_acceptor}
use Rattle.classes.specs.ClassesCall.{total_of, words_of}
use Rattle.classes.specs.SameClassesLaws.{same_numbered}
use Rattle.governed.specs.GovernedCall.{GovernedCall, governed_answer, GovernedClassesCall}

module _ {g h : List ℕ} (same : SameGame g h) where
  same_bytes : bytes_of governed_marks g ≡ bytes_of governed_marks h
  unfolding marks_by
  same_bytes = ap bytes (agree_marks_by (same_agree same) true)

  same_passes : governed_passes (game_of g) ≡ governed_passes (game_of h)
  unfolding passes_by
  same_passes = agree_passes_by (same_agree same) true

  same_total : total_of governed g ≡ total_of governed h
  unfolding total_of
  same_total = ap₂ class_count same.vertices (agree_governed (same_agree same))

  same_words : words_of governed g ≡ words_of governed h
  unfolding words_of
  same_words = ap₂ (λ (n : ℕ) (le : Rel). tabulate n (class_number n le)) same.vertices (agree_governed (same_agree same))

  module _ (wg : WellFormed g) (wh : WellFormed h) where
    pub same_governed : (marks spare : List ℕ) {answer : Answer} {marks' spare' : List ℕ} → GovernedCall g marks spare answer marks' spare'
        → GovernedCall h marks spare answer marks' spare'
    same_governed = same_marks governed_marks governed_passes same same_bytes same_passes wg wh

    pub same_governed_answer : (marks : List ℕ) → governed_answer g marks ≡ governed_answer h marks
    unfolding governed_pair
    same_governed_answer marks =
        same_acceptor same marks governed_pair (λ H v w hv hw. ap (λ b. b & H w v) (same_direct same marks H v w hv hw)) wg wh

    pub same_governed_classes : (marks spare classes : List ℕ) {answer : Answer} {marks' spare' classes' : List ℕ}
        → GovernedClassesCall g marks spare classes answer marks' spare' classes' → GovernedClassesCall h marks spare classes answer marks' spare' classes'
    same_governed_classes marks spare classes = same_numbered same wg wh marks spare classes same_bytes same_total same_words
