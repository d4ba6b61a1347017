-- Tables of one game: the classes call answers and writes the same. What its rows do is said for any counts and words, since the calls that
-- write a table have these rows first.
use Rattle.std.specs.Prelude.{◌≡◌, List, [], ◌∷◌, ℕ}
use Rattle.std.proofs.Common.{sym, ap, ◌∙◌}
use Rattle.std.proofs.Math.Path.{ap₂}
use Rattle.theory.proofs.Logic.ListLaws.{tabulate_ext}
use Rattle.theory.specs.Order.Passes.{Marks}
use Rattle.theory.specs.Games.Game.{Game}
use Rattle.theory.specs.Classes.Reduction.{class_count}
use Rattle.theory.proofs.Games.AgreementLaws.{agree_order, agree_class}
use Rattle.table.specs.Table.{vertex_count}
use Rattle.table.specs.Answers.{Answer, judge, after}
use Rattle.table.specs.AnswersLaws.{judge_past, after_past}
use Rattle.table.specs.Reading.{game_rows}
use Rattle.table.specs.ReadingLaws.{well_clean}
use Rattle.table.specs.WellFormed.{WellFormed}
use Rattle.table.specs.SameGame.{SameGame}
use Rattle.table.specs.SameGameLaws.{same_agree}
use Rattle.order.specs.OrderCall.{bytes_of}
use Rattle.order.specs.SameOrderLaws.{same_order_bytes}
use Rattle.classes.specs.ClassesCall.{class_rows, class_total, class_words, total_answer, NumberedCall, ClassesCall}

module _ {g h : List ℕ} (same : SameGame g h) where
  pub same_class_total : class_total g ≡ class_total h
  unfolding class_total
  same_class_total = ap₂ class_count same.vertices (agree_order (same_agree same))

  pub same_class_words : class_words g ≡ class_words h
  unfolding class_words
  same_class_words = tabulate_ext (vertex_count g) _ _ (λ v l. agree_class (same_agree same) v) ∙ rw same.vertices

module _ {g h : List ℕ} (same : SameGame g h) (wg : WellFormed g) (wh : WellFormed h) (marks spare classes : List ℕ) where
  pub same_judge : {counts counts' : List ℕ} → counts ≡ counts'
      → judge (class_rows g marks spare classes) counts ≡ judge (class_rows h marks spare classes) counts'
  unfolding class_rows
  same_judge e =
      judge_past (game_rows g) _ _ (well_clean g wg)
      ∙ rw (same.vertices, e) (sym (judge_past (game_rows h) _ _ (well_clean h wh)))

  -- a buffer after the call
  pub same_after : {new new' : List ℕ} → new ≡ new' → (old : List ℕ)
      → after (class_rows g marks spare classes) new old ≡ after (class_rows h marks spare classes) new' old
  unfolding class_rows
  same_after e old =
      after_past (game_rows g) _ _ old (well_clean g wg)
      ∙ rw (same.vertices, e) (sym (after_past (game_rows h) _ _ old (well_clean h wh)))

  -- whatever relation is written
  pub same_numbered : {relation : Game → Marks} {total : List ℕ → ℕ} {words : List ℕ → List ℕ} → bytes_of relation g ≡ bytes_of relation h
      → total g ≡ total h → words g ≡ words h → {answer : Answer} {marks' spare' classes' : List ℕ}
      → NumberedCall relation total words g marks spare classes answer marks' spare' classes'
      → NumberedCall relation total words h marks spare classes answer marks' spare' classes'
  unfolding total_answer
  same_numbered b t w call = record {
    verdict = call.verdict ∙ same_judge (ap (λ (k : ℕ). k ∷ []) t);
    marks_after = call.marks_after ∙ same_after b marks;
    spare_after = call.spare_after ∙ same_after b spare;
    classes_after = call.classes_after ∙ same_after w classes;
  }

  pub same_classes : {answer : Answer} {marks' spare' classes' : List ℕ} → ClassesCall g marks spare classes answer marks' spare' classes'
      → ClassesCall h marks spare classes answer marks' spare' classes'
  same_classes = same_numbered (same_order_bytes same) (same_class_total same) (same_class_words same)
