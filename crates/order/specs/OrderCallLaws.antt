-- Laws of the calls that write a relation by passes: their promise at each way out.
use Rattle.std.specs.Prelude.{◌≡◌, ℕ, ◌≤◌, ◌<◌, length, Err}
use Rattle.std.proofs.Math.Path.{sym}
use Rattle.std.proofs.Common.{◌∙◌, lt-ltb, le-ltb}
use mathlib.Core.List.{List, [], ◌∷◌}
use Rattle.theory.specs.Order.Passes.{Marks}
use Rattle.theory.specs.Games.Game.{Game}
use Rattle.table.specs.Table.{vertex_count, game_of}
use Rattle.table.specs.Answers.{memory_row, accepted, refused, judge}
use Rattle.table.specs.AnswersLaws.{judge_hit, judge_next, judge_past, after_accepted, after_refused}
use Rattle.table.specs.Reading.{game_rows, sizes_answer}
use Rattle.table.specs.Filling.{filling_answer}
use Rattle.table.specs.ReadingLaws.{reading_stays, well_clean}
use Rattle.table.specs.WellFormed.{WellFormed}
use Rattle.table.specs.declared.Refusal.{Refusal}
use Rattle.marks.specs.Marks.{marks_length}
use Rattle.order.specs.OrderCall.{order_rows, passes_answer, bytes_of, MarksCall}
use Rattle.order.specs.OrderWritten.{MarksDone}

module _ (relation : Game → Marks) (passes : Game → ℕ) (game marks spare : List ℕ) where
  order_old : (k p : ℕ) → passes_answer passes game marks spare ≡ refused k p → MarksCall relation passes game marks spare (refused k p) marks spare
  unfolding passes_answer
  order_old k p e = record {
    verdict = sym e;
    marks_after = sym (after_refused (order_rows game marks spare) _ (bytes_of relation game) marks e);
    spare_after = sym (after_refused (order_rows game marks spare) _ (bytes_of relation game) spare e);
  }

  -- the reader's refusal is the call's
  pub order_handed : (f : Refusal) → filling_answer (Err f) ≡ sizes_answer game
      → MarksCall relation passes game marks spare (refused f.number f.place) marks spare
  order_handed f e = order_old f.number f.place (unfold passes_answer order_rows in reading_stays game f e _ _)

  module _ (well : WellFormed game) where
    memory : passes_answer passes game marks spare ≡ judge (memory_row 21 (marks_length (vertex_count game)) marks ∷ memory_row 22 (marks_length (vertex_count game)) spare ∷ []) (passes (game_of game) ∷ [])
    unfolding passes_answer order_rows
    memory = judge_past (game_rows game) _ _ (well_clean game well)

    pub order_short_marks : length marks < (marks_length (vertex_count game)) → MarksCall relation passes game marks spare (refused 21 (marks_length (vertex_count game))) marks spare
    order_short_marks h = order_old 21 (marks_length (vertex_count game)) (memory ∙ judge_hit _ _ _ (lt-ltb (length marks) (marks_length (vertex_count game)) h))

    module _ (h : (marks_length (vertex_count game)) ≤ length marks) where
      marks_fit_lem : passes_answer passes game marks spare ≡ judge (memory_row 22 (marks_length (vertex_count game)) spare ∷ []) (passes (game_of game) ∷ [])
      marks_fit_lem = memory ∙ judge_next _ _ _ (le-ltb (length marks) (marks_length (vertex_count game)) h)

      pub order_short_spare : length spare < (marks_length (vertex_count game)) → MarksCall relation passes game marks spare (refused 22 (marks_length (vertex_count game))) marks spare
      order_short_spare k = order_old 22 (marks_length (vertex_count game)) (marks_fit_lem ∙ judge_hit _ _ _ (lt-ltb (length spare) (marks_length (vertex_count game)) k))

      -- both fit
      pub order_done : (marks_length (vertex_count game)) ≤ length spare → (c : ℕ) (marks' spare' : List ℕ) → MarksDone relation passes game marks spare c marks' spare'
          → MarksCall relation passes game marks spare (accepted (c ∷ [])) marks' spare'
      unfolding judge passes_answer
      order_done k c marks' spare' d =
          let a : passes_answer passes game marks spare ≡ accepted (passes (game_of game) ∷ []) =
          marks_fit_lem ∙ judge_next _ [] (passes (game_of game) ∷ []) (le-ltb (length spare) (marks_length (vertex_count game)) k) in
          record {
            verdict = rw d.count (sym a);
            marks_after = d.marks_after ∙ sym (after_accepted (order_rows game marks spare) _ (bytes_of relation game) marks a);
            spare_after = d.spare_after ∙ sym (after_accepted (order_rows game marks spare) _ (bytes_of relation game) spare a);
          }
