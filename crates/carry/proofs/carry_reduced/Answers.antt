-- A refusal of the plan stands; otherwise what `carry_to` answers and writes, with the counts of the reduced game.
use Rattle.std.proofs.lemmas.Result.{err_from_is_err_and}
use Rattle.std.proofs.Common.{subst, sym}
use Rattle.table.specs.WellFormed.{WellFormed}
use Rattle.carry.proofs.CarryCallLaws.{reduced_well, reduced_judged, class_can, reduced_refused, reduced_accepted}
use Rattle.carry.proofs.carry_reduced.Goals as goal

pub judge_plan-requires : goal.judge_plan-requires
judge_plan-requires c = subst WellFormed (sym c.requires.table) (reduced_well _ c.requires.well)

pub returns-in_err-judge_plan : goal.returns-in_err-judge_plan
returns-in_err-judge_plan c = let p = err_from_is_err_and c.from_residual.result c.from_residual.ensures.1 in
    rw (p.1, p.2) (reduced_judged _ _ _ _ _ _ _ (rw c.requires.table at c.in_err-judge_plan.ensures))

pub carry_to-requires : goal.carry_to-requires
carry_to-requires c = class_can _ _ _ c.requires.well c.requires.ordered c.requires.classed (rw c.requires.table at c.in_ok-judge_plan.ensures)

pub returns : goal.returns
returns c = reduced_accepted _ _ _ _ _ (rw c.requires.table at c.in_ok-judge_plan.ensures) _ _ _ c.in_ok-found.ensures _ c.requires.totals

pub returns-in_err-found : goal.returns-in_err-found
returns-in_err-found c = let p = err_from_is_err_and c.from_residual-in_err-found.result c.from_residual-in_err-found.ensures.1 in
    rw (p.1, p.2) (reduced_refused _ _ _ _ _ (rw c.requires.table at c.in_ok-judge_plan.ensures) _ _ _ c.in_err-found.ensures)
