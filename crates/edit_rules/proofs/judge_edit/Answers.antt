-- Each way out of this function is row 37; the rest is judged by `judge_change`.
use mathlib.Core.Path.{sym, ◌∙◌}
use Rattle.edit_rules.proofs.JudgeLaws.{source_outside, target_outside, edit_misplaced, edit_placed}
use Rattle.edit_rules.proofs.judge_edit.Goals as goal

pub returns-then-n-s : goal.returns-then-n-s
returns-then-n-s c = rw c.refused.ensures (source_outside _ _ _ _ _ _ _ _ c.if-n-s.true)

pub returns-then-n-t : goal.returns-then-n-t
returns-then-n-t c = rw c.refused-then-n-t.ensures (target_outside _ _ _ _ _ _ _ _ c.if-n-t.true)

pub returns-then-is_misplaced : goal.returns-then-is_misplaced
returns-then-is_misplaced c = rw c.refused-then-is_misplaced.ensures (edit_misplaced _ _ _ _ _ _ _ _ (sym c.is_misplaced.ensures ∙ c.if-is_misplaced.true))

pub returns : goal.returns
returns c = c.judge_change.ensures
    ∙ edit_placed _ _ _ _ _ _ _ _ c.if-n-s.false c.if-n-t.false (sym c.is_misplaced.ensures ∙ c.if-is_misplaced.false)
