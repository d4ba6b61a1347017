-- Tables of one game: the order call answers and writes the same.
use Rattle.std.specs.Prelude.{◌≡◌, List, ℕ}
use Rattle.std.proofs.Common.{sym, ap, ◌∙◌}
use Rattle.theory.specs.Order.Passes.{Marks}
use Rattle.theory.specs.Games.Game.{Game}
use Rattle.theory.specs.Order.Order.{order_marks, order_passes}
use Rattle.theory.proofs.Games.AgreementLaws.{agree_order_marks, agree_passes}
use Rattle.table.specs.Table.{game_of}
use Rattle.table.specs.Answers.{Answer, after}
use Rattle.table.specs.AnswersLaws.{judge_past, after_past}
use Rattle.table.specs.Reading.{game_rows}
use Rattle.table.specs.ReadingLaws.{well_clean}
use Rattle.table.specs.WellFormed.{WellFormed}
use Rattle.table.specs.SameGame.{SameGame}
use Rattle.table.specs.SameGameLaws.{same_agree}
use Rattle.marks.specs.Marks.{bytes}
use Rattle.order.specs.OrderCall.{order_rows, passes_answer, order_answer, bytes_of, order_bytes, MarksCall, OrderCall}

pub same_order_bytes : {g h : List ℕ} → SameGame g h → order_bytes g ≡ order_bytes h
same_order_bytes same = ap bytes (agree_order_marks (same_agree same))

-- whatever relation of the game is written
module _ (relation : Game → Marks) (passes : Game → ℕ) {g h : List ℕ} (same : SameGame g h) (bytes_same : bytes_of relation g ≡ bytes_of relation h)
    (Passes-same : passes (game_of g) ≡ passes (game_of h)) (wg : WellFormed g) (wh : WellFormed h) (marks spare : List ℕ) where
  same_answer : passes_answer passes g marks spare ≡ passes_answer passes h marks spare
  unfolding passes_answer order_rows
  same_answer =
      judge_past (game_rows g) _ _ (well_clean g wg)
      ∙ rw (same.vertices, Passes-same) (sym (judge_past (game_rows h) _ _ (well_clean h wh)))

  -- a buffer after the call
  same_after : (old : List ℕ) → after (order_rows g marks spare) (bytes_of relation g) old ≡ after (order_rows h marks spare) (bytes_of relation h) old
  unfolding order_rows
  same_after old =
      after_past (game_rows g) _ (bytes_of relation g) old (well_clean g wg)
      ∙ rw (same.vertices, bytes_same) (sym (after_past (game_rows h) _ (bytes_of relation h) old (well_clean h wh)))

  pub same_marks : {answer : Answer} {marks' spare' : List ℕ} → MarksCall relation passes g marks spare answer marks' spare'
      → MarksCall relation passes h marks spare answer marks' spare'
  same_marks call = record {
    verdict = call.verdict ∙ same_answer;
    marks_after = call.marks_after ∙ same_after marks;
    spare_after = call.spare_after ∙ same_after spare;
  }

module _ {g h : List ℕ} (same : SameGame g h) (wg : WellFormed g) (wh : WellFormed h) (marks spare : List ℕ) where
  pub same_order_answer : order_answer g marks spare ≡ order_answer h marks spare
  same_order_answer = same_answer order_marks order_passes same (same_order_bytes same) (agree_passes (same_agree same)) wg wh marks spare

  pub same_order : {answer : Answer} {marks' spare' : List ℕ} → OrderCall g marks spare answer marks' spare' → OrderCall h marks spare answer marks' spare'
  same_order = same_marks order_marks order_passes same (same_order_bytes same) (agree_passes (same_agree same)) wg wh marks spare
