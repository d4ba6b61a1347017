-- A refusal of the plan stands; otherwise the start of the plan decides.
use Rattle.std.proofs.lemmas.Result.{err_from_is_err_and}
use Rattle.std.proofs.Common.{arith}
use Rattle.verdict.proofs.VerdictCallLaws.{start_there, start_refused, start_wins, start_elsewhere}
use Rattle.verdict.proofs.judge_reduced.Goals as goal

pub returns-in_err-judge_plan : goal.returns-in_err-judge_plan
returns-in_err-judge_plan c = let p = err_from_is_err_and c.from_residual.result c.from_residual.ensures.1 in
    rw (p.1, p.2) (start_refused _ _ _ _ _ _ _ c.in_err-judge_plan.ensures)

pub bounds-plan-2 : goal.bounds-plan-2
bounds-plan-2 c = omega (arith, start_there _ _ _ c.requires c.in_ok-judge_plan.ensures)

pub returns-then-plan-class : goal.returns-then-plan-class
returns-then-plan-class c = start_wins _ _ _ _ _ c.in_ok-judge_plan.ensures c.if-plan-class.true

pub returns-else-plan-class : goal.returns-else-plan-class
returns-else-plan-class c = start_elsewhere _ _ _ _ _ c.in_ok-judge_plan.ensures c.if-plan-class.false
