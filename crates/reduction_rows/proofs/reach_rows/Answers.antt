-- The rows hold what each vertex reaches, and then what all members of a class reach.
use Rattle.table.specs.Table.{game_of}
use Rattle.reduction_rows.specs.ReachedLaws.{rows_reach}
use Rattle.reduction_rows.proofs.reach_rows.Goals as goal

pub returns : goal.returns
unfolding game_of
returns c = rows_reach _ _ _ _ c.requires.grouped.1.wide c.reach_edges.ensures c.meet_members.ensures
