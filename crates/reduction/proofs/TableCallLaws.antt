-- Laws of the calls that write a table, for any game K of classes: their promise at each way out.
use Rattle.std.specs.Prelude.{◌≡◌, ℕ, ◌<◌, length, Result, Ok, Err}
use Rattle.std.proofs.Common.{sym, ◌∙◌, lt-ltb}
use mathlib.Core.List.{List, [], ◌∷◌}
use Rattle.theory.specs.Games.Game.{Game}
use Rattle.table.specs.Acceptance.{acceptance_answer}
use Rattle.table.specs.Table.{vertex_count, table_edges, table_length}
use Rattle.table.specs.Answers.{Row, memory_row, accepted, refused, judge}
use Rattle.table.specs.AnswersLaws.{judge_hit, judge_clean, judge_past, judge_stays, after_clean, after_refused}
use Rattle.table.specs.Reading.{sizes_answer}
use Rattle.table.specs.Filling.{filling_answer, refusal_of}
use Rattle.table.specs.ReadingLaws.{reading_accepted}
use Rattle.table.specs.WellFormed.{WellFormed, WellSized}
use Rattle.table.specs.declared.FilledSizes.{FilledSizes}
use Rattle.table.specs.declared.Refusal.{Refusal}
use Rattle.order.specs.OrderCall.{order_bytes}
use Rattle.classes.specs.ClassesCall.{memory_rows, class_rows, class_words}
use Rattle.classes.specs.ClassesCallLaws.{rows_handed, rows_short}
use Rattle.classes.specs.ClassesRules.{ClassesFit}
use Rattle.classes.specs.ClassesRulesLaws.{classes_clean}
use Rattle.reduction.specs.TableCall.{table_rows, table_counts, class_table, TableCall}
use Rattle.reduction.specs.TableRules.{TableFits}
use Rattle.reduction.proofs.TableRulesLaws.{table_clean}
use Rattle.reduction.specs.Tables.{TableDone}
use Rattle.reduction.specs.declared.TableCounts.{TableCounts}

-- the reader accepted
pub sized : {game : List ℕ} {reading : Result FilledSizes Refusal} {sizes : FilledSizes} → reading ≡ Ok sizes → filling_answer reading ≡ sizes_answer game → WellSized game sizes
sized {game} e a = reading_accepted game _ (rw e at a)

module _ (K : Game → Game) (game marks spare classes output : List ℕ) where
  abbrev rows : List Row
  rows = table_rows game marks spare classes output

  abbrev needed : ℕ
  needed = table_length (vertex_count game) (table_edges game)

  abbrev counts : List ℕ
  counts = table_counts K game

  table_old : (k p : ℕ) → judge rows counts ≡ refused k p → TableCall K game marks spare classes output (refused k p) marks spare classes output
  table_old k p e = record {
    verdict = sym e;
    marks_after = sym (after_refused rows counts (order_bytes game) marks e);
    spare_after = sym (after_refused rows counts (order_bytes game) spare e);
    classes_after = sym (after_refused rows counts (class_words game) classes e);
    output_after = sym (after_refused rows counts (class_table K game) output e);
  }

  -- a refusal by the rows of the classes call stands
  stays : (k p : ℕ) → judge (class_rows game marks spare classes) [] ≡ refused k p → judge rows counts ≡ refused k p
  unfolding table_rows
  stays k p e = judge_stays (class_rows game marks spare classes) _ [] counts k p e

  -- the reader's refusal, taken out of its verdict, is the call's
  pub table_handed : (reading : Result FilledSizes Refusal) (f g : Refusal) → reading ≡ Err f → filling_answer reading ≡ sizes_answer game → g ≡ refusal_of reading
      → TableCall K game marks spare classes output (refused g.number g.place) marks spare classes output
  table_handed reading f g e a r =
      rw (r, e) (table_old f.number f.place (stays _ _ (rows_handed game marks spare classes [] f (rw e at a))))

  pub table_short : WellFormed game → (f : Refusal)
      → acceptance_answer (Err f) ≡ judge (memory_rows (vertex_count game) (length marks) (length spare) (length classes)) []
      → TableCall K game marks spare classes output (refused f.number f.place) marks spare classes output
  table_short well f e = table_old f.number f.place (stays _ _ (rows_short game marks spare classes [] well f e))

  pub table_output_short : ClassesFit game marks spare classes → (p : ℕ) → p ≡ needed → length output < p
      → TableCall K game marks spare classes output (refused 24 p) marks spare classes output
  table_output_short f p e h =
      rw e
      (table_old 24 needed
      (unfold table_rows in
      judge_past (class_rows game marks spare classes) (memory_row 24 needed output ∷ []) counts (classes_clean game marks spare classes f)
      ∙ judge_hit _ _ _ (lt-ltb (length output) needed (rw e at h))))

  pub table_written : TableFits game marks spare classes output → (passes : ℕ) (c : TableCounts) (marks' spare' classes' output' : List ℕ)
      → TableDone K game marks spare classes output passes c marks' spare' classes' output'
      → TableCall K game marks spare classes output (accepted (c.classes ∷ c.vertices ∷ c.edges ∷ [])) marks' spare' classes' output'
  table_written f passes c marks' spare' classes' output' d =
      let clean = table_clean game marks spare classes output f in
      let t = d.table in record {
        verdict = rw (t.class_count_lem, t.vertex_count_lem, t.edge_count_lem) (sym (judge_clean rows counts clean));
        marks_after = d.order.marks_after ∙ sym (after_clean rows (order_bytes game) marks clean);
        spare_after = d.order.spare_after ∙ sym (after_clean rows (order_bytes game) spare clean);
        classes_after = t.classes_after ∙ sym (after_clean rows (class_words game) classes clean);
        output_after = t.output_after ∙ sym (after_clean rows (class_table K game) output clean);
      }
