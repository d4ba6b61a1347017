-- A refusal of the reader or of the memory stands; otherwise what the reduced-game call leaves, and what `carry_reduced` answers and writes.
use Rattle.std.proofs.lemmas.Result.{err_from_is_err_and}
use Rattle.std.proofs.Common.{ap, refl}
use Rattle.theory.specs.Classes.Reduction.{reduced}
use Rattle.reduction_edges.specs.Rows.{game_by}
use Rattle.reduction.specs.TableCall.{tabulation_answer}
use Rattle.reduction.proofs.TableCallLaws.{sized, table_handed}
use Rattle.carry.proofs.CarryCallLaws.{class_refused, class_held, class_arrived}
use Rattle.carry.proofs.carry_class_plan.Goals as goal

pub returns-in_default : goal.returns-in_default
returns-in_default c = class_refused _ _ _ _ _ _ _ _ _ (table_handed reduced _ _ _ _ _ _ _ _ c.in_default.is c.read_sizes-reading.ensures c.refusal_of.ensures) _ _ refl

pub tabulate_classes-requires : goal.tabulate_classes-requires
tabulate_classes-requires c = sized c.in-Ok.is c.read_sizes-reading.ensures

pub carry_reduced-requires : goal.carry_reduced-requires
unfolding game_by
carry_reduced-requires c = class_held c.tabulate_classes.ensures _ (ap tabulation_answer c.in_ok-counts.was)

pub returns : goal.returns
unfolding game_by
returns c = class_arrived _ _ _ _ _ _ _ _ _ c.tabulate_classes.ensures _ (ap tabulation_answer c.in_ok-counts.was) _ _ c.carry_reduced.ensures

pub returns-in_err-counts : goal.returns-in_err-counts
unfolding game_by
returns-in_err-counts c = let p = err_from_is_err_and c.from_residual.result c.from_residual.ensures.1 in
    rw (p.1, p.2) (class_refused _ _ _ _ _ _ _ _ _ c.tabulate_classes.ensures _ _ (ap tabulation_answer c.in_err-counts.was))
