-- A refusal of the reader stands before every row of the plan, and past an accepted game these rows decide.
use mathlib.Core.Path.{sym, ◌∙◌}
use Rattle.table.specs.ReadingLaws.{reading_accepted, reading_past, reading_stays}
use Rattle.plan.specs.Acceptance.{plan_answer}
use Rattle.plan.proofs.accept_plan.Goals as goal

pub returns-in_default : goal.returns-in_default
unfolding plan_answer
returns-in_default c =
    let d = c.in_default in
    rw (c.refusal_of.ensures, d.is) (sym (reading_stays _ d.field-0 (rw d.is at c.read_sizes-reading.ensures) _ _))

pub judge_plan-requires : goal.judge_plan-requires
judge_plan-requires c = (reading_accepted _ c.in-Ok.field-0 (rw c.in-Ok.is at c.read_sizes-reading.ensures)).well

pub returns : goal.returns
unfolding plan_answer
returns c = c.judge_plan.ensures ∙ sym (reading_past _ c.in-Ok.field-0 (rw c.in-Ok.is at c.read_sizes-reading.ensures) _ _)
