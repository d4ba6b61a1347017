-- The reader's refusal is the call's; an accepted game is well-formed, which is what the rest needs.
use Rattle.reduction_edges.specs.Rows.{game_by}
use Rattle.reduction.proofs.TableCallLaws.{sized, table_handed}
use Rattle.reduction.proofs.write_quotient.Goals as goal

pub returns-in_default : goal.returns-in_default
returns-in_default c = table_handed _ _ _ _ _ _ _ _ _ c.in_default.is c.read_sizes-reading.ensures c.refusal_of.ensures

pub tabulate_classes-requires : goal.tabulate_classes-requires
tabulate_classes-requires c = sized c.in-Ok.is c.read_sizes-reading.ensures

pub returns : goal.returns
unfolding game_by
returns c = c.tabulate_classes.ensures
