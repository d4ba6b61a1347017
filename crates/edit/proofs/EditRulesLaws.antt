-- Laws of the calls that edit a table: they refuse k at p exactly as the table of refusals says, accept exactly otherwise, and, refused, leave
-- all lent memory as it was.
use Rattle.std.specs.Prelude.{◌≡◌, ◌↔◌, List, ℕ, length}
use Rattle.std.proofs.Common.{sym, ◌∙◌}
use Rattle.table.specs.Table.{vertex_count, table_in}
use Rattle.table.specs.Answers.{Row, Answer, accepted, refused, Clean}
use Rattle.table.specs.AnswersLaws.{judge_clean, judge_accepted, after_refused}
use Rattle.table.specs.Rules.{Rule, FirstRule, NoRule, Rendered}
use Rattle.table.specs.RulesLaws.{refused_by, rendered_append, clean_none, none_clean}
use Rattle.order.specs.OrderCall.{order_bytes}
use Rattle.classes.specs.ClassesCall.{class_words}
use Rattle.classes.specs.ClassesRulesLaws.{memory_rows_render}
use Rattle.edit_rules.proofs.BufferLaws.{buffer_render}
use Rattle.edit_rules.specs.Edges.{edited, edited_words}
use Rattle.edit_rules.proofs.EdgesRulesLaws.{edit_render}
use Rattle.edit_rules.specs.declared.Edit.{Edit}
use Rattle.edit.specs.EditCall.{call_rows, call_counts, EditedBy, EditCall}
use Rattle.edit.specs.EditRules.{call_rules}

call_render : (e : Edit) (buffer : List ℕ) (s t : ℕ) (marks spare classes : List ℕ)
    → Rendered (call_rows e buffer s t marks spare classes) (call_rules e buffer s t marks spare classes)
call_render e buffer s t marks spare classes =
    rendered_append (buffer_render buffer)
    (rendered_append (memory_rows_render (vertex_count buffer) marks spare classes) (edit_render e (table_in buffer) (length buffer) s t))

-- ---- whatever the rows

module _ {rows : List Row} {e : Edit} {g : List ℕ} {s t : ℕ} {buffer marks spare classes : List ℕ} {answer : Answer} {buffer' marks' spare' classes' : List ℕ}
    (call : EditedBy rows e g s t buffer marks spare classes answer buffer' marks' spare' classes') where
  abbrev new : List ℕ
  new = edited e g s t

  pub call_passed : (counts : List ℕ) → answer ≡ accepted counts → Clean rows × (counts ≡ call_counts new)
  call_passed counts a =
      let j = judge_accepted rows _ counts (sym call.verdict ∙ a) in
      (j.0, sym j.1)

  pub call_refused_old : (k p : ℕ) → answer ≡ refused k p → (buffer' ≡ buffer) × (marks' ≡ marks) × (spare' ≡ spare) × (classes' ≡ classes)
  call_refused_old k p a =
      let v = sym call.verdict ∙ a in (
        call.buffer_after ∙ after_refused rows _ (edited_words e g s t) buffer v,
        call.marks_after ∙ after_refused rows _ (order_bytes new) marks v,
        call.spare_after ∙ after_refused rows _ (order_bytes new) spare v,
        call.classes_after ∙ after_refused rows _ (class_words new) classes v,
      )

  -- refused exactly by the rules that the rows render, and accepted exactly where none holds
  module _ {rules : List Rule} (render : Rendered rows rules) where
    pub refused_as : (k p : ℕ) → (answer ≡ refused k p) ↔ FirstRule rules k p
    refused_as = refused_by _ render call.verdict

    pub accepted_as : (counts : List ℕ) → answer ≡ accepted counts → NoRule rules × (counts ≡ call_counts new)
    accepted_as counts a =
        let p = call_passed counts a in
        (clean_none render p.0, p.1)

    pub accepts_as : NoRule rules → answer ≡ accepted (call_counts new)
    accepts_as n = call.verdict ∙ judge_clean _ _ (none_clean render n)

-- ---- the calls of change request 7

module _ {e : Edit} {buffer : List ℕ} {s t : ℕ} {marks spare classes : List ℕ} {answer : Answer} {buffer' marks' spare' classes' : List ℕ}
    (call : EditCall e buffer s t marks spare classes answer buffer' marks' spare' classes') where
  abbrev Rules : List Rule
  Rules = call_rules e buffer s t marks spare classes

  render : Rendered (call_rows e buffer s t marks spare classes) Rules
  render = call_render e buffer s t marks spare classes

  pub call_refused : (k p : ℕ) → (answer ≡ refused k p) ↔ FirstRule Rules k p
  call_refused = refused_as call render

  pub call_accepted : (counts : List ℕ) → answer ≡ accepted counts → NoRule Rules × (counts ≡ call_counts (edited e (table_in buffer) s t))
  call_accepted = accepted_as call render

  pub call_accepts : NoRule Rules → answer ≡ accepted (call_counts (edited e (table_in buffer) s t))
  call_accepts = accepts_as call render
