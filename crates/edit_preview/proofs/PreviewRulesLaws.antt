-- Laws of the calls that preview an edit: they refuse k at p exactly as the table of refusals says, and accept exactly otherwise. Refused, they
-- leave all of the second set as it was (`call_refused_old`).
use Rattle.std.specs.Prelude.{◌≡◌, ◌↔◌, List, ℕ, length}
use Rattle.table.specs.Table.{vertex_count, table_in}
use Rattle.table.specs.Answers.{Answer, accepted, refused}
use Rattle.table.specs.Rules.{Rule, FirstRule, NoRule, Rendered, next}
use Rattle.table.specs.RulesLaws.{rendered_append, memory_renders}
use Rattle.classes.specs.ClassesRulesLaws.{memory_rows_render}
use Rattle.edit_rules.proofs.BufferLaws.{buffer_render}
use Rattle.edit_rules.specs.Edges.{edited}
use Rattle.edit_rules.proofs.EdgesRulesLaws.{edit_render}
use Rattle.edit_rules.specs.declared.Edit.{Edit}
use Rattle.edit.specs.EditCall.{call_counts}
use Rattle.edit.proofs.EditRulesLaws.{refused_as, accepted_as, accepts_as}
use Rattle.edit_preview.specs.PreviewCall.{preview_rows, PreviewCall}
use Rattle.edit_preview.specs.PreviewRules.{preview_rules}

module _ (game : List ℕ) {e : Edit} {s t : ℕ} {table marks spare classes : List ℕ} {answer : Answer} {table' marks' spare' classes' : List ℕ}
    (call : PreviewCall e game s t table marks spare classes answer table' marks' spare' classes') where
  abbrev Rules : List Rule
  Rules = preview_rules e game s t table marks spare classes

  render : Rendered (preview_rows e game s t table marks spare classes) Rules
  render =
      rendered_append (buffer_render game)
      (rendered_append (memory_rows_render (vertex_count game) marks spare classes)
      (next (memory_renders 24 _ table) (edit_render e (table_in game) (length table) s t)))

  pub preview_refused : (k p : ℕ) → (answer ≡ refused k p) ↔ FirstRule Rules k p
  preview_refused = refused_as call render

  pub preview_accepted : (counts : List ℕ) → answer ≡ accepted counts → NoRule Rules × (counts ≡ call_counts (edited e (table_in game) s t))
  preview_accepted = accepted_as call render

  pub preview_accepts : NoRule Rules → answer ≡ accepted (call_counts (edited e (table_in game) s t))
  preview_accepts = accepts_as call render
