-- Laws of the calls that write the table of a game K of classes: each refuses k at p exactly as document 01's table says, accepts exactly
-- otherwise, and, refused, leaves all lent memory as it was.
use Rattle.std.specs.Prelude.{◌≡◌, ◌↔◌, List, ℕ, length}
use Rattle.std.proofs.Common.{sym, ◌∙◌}
use borrow.Author.Tests.{ltb-false, le-ltb}
use Rattle.theory.specs.Games.Game.{Game}
use Rattle.table.specs.Answers.{Row, Answer, accepted, refused, Clean}
use Rattle.table.specs.AnswersLaws.{judge_clean, judge_accepted, after_refused, clean_append, clean_split}
use Rattle.table.specs.Rules.{FirstRule, Rendered, none, next}
use Rattle.table.specs.RulesLaws.{memory_renders, refused_by, rendered_append}
use Rattle.order.specs.OrderCall.{order_bytes}
use Rattle.classes.specs.ClassesCall.{class_rows, class_words}
use Rattle.classes.specs.ClassesRulesLaws.{class_rows_render, classes_clean, clean_classes}
use Rattle.reduction.specs.TableCall.{table_rows, table_counts, class_table, TableCall}
use Rattle.reduction.specs.TableRules.{table_rules, TableFits}

-- ---- the rows render the rules, and are clean exactly if the game is well formed and the memory fits

module _ (game marks spare classes output : List ℕ) where
  pub table_rows_render : Rendered (table_rows game marks spare classes output) (table_rules game marks spare classes output)
  unfolding table_rows
  table_rows_render = rendered_append (class_rows_render game marks spare classes) (next (memory_renders 24 _ output) none)

  pub table_clean : TableFits game marks spare classes output → Clean (table_rows game marks spare classes output)
  unfolding table_rows
  table_clean f =
      clean_append (class_rows game marks spare classes) _ (classes_clean game marks spare classes f.classes_fit)
      (le-ltb (length output) _ f.output_fit, tt)

  pub clean_table : Clean (table_rows game marks spare classes output) → TableFits game marks spare classes output
  unfolding table_rows
  clean_table c =
      let s = clean_split (class_rows game marks spare classes) _ c in
      record { classes_fit = clean_classes game marks spare classes s.0; output_fit = ltb-false (length output) _ s.1.0 }

-- ---- the calls

module _ {K : Game → Game} {game marks spare classes output : List ℕ} {answer : Answer} {marks' spare' classes' output' : List ℕ}
    (call : TableCall K game marks spare classes output answer marks' spare' classes' output') where
  abbrev rows : List Row
  rows = table_rows game marks spare classes output

  pub table_refused : (k p : ℕ) → (answer ≡ refused k p) ↔ FirstRule (table_rules game marks spare classes output) k p
  table_refused = refused_by (table_counts K game) (table_rows_render game marks spare classes output) call.verdict

  pub table_accepted : (counts : List ℕ) → answer ≡ accepted counts → TableFits game marks spare classes output × (counts ≡ table_counts K game)
  table_accepted counts e =
      let a = judge_accepted rows _ counts (sym call.verdict ∙ e) in
      (clean_table game marks spare classes output a.0, sym a.1)

  pub table_accepts : TableFits game marks spare classes output → answer ≡ accepted (table_counts K game)
  table_accepts f = call.verdict ∙ judge_clean _ _ (table_clean game marks spare classes output f)

  pub table_refused_old : (k p : ℕ) → answer ≡ refused k p → (marks' ≡ marks) × (spare' ≡ spare) × (classes' ≡ classes) × (output' ≡ output)
  table_refused_old k p e =
      let v = sym call.verdict ∙ e in (
        call.marks_after ∙ after_refused rows _ (order_bytes game) marks v,
        call.spare_after ∙ after_refused rows _ (order_bytes game) spare v,
        call.classes_after ∙ after_refused rows _ (class_words game) classes v,
        call.output_after ∙ after_refused rows _ (class_table K game) output v,
      )
