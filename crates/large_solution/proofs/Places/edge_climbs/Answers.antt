-- The test of the edge's places, and then whether it is kept.
use mathlib.Core.Path.{sym, ◌∙◌}
use Rattle.theory.specs.Logic.Bools.{◌&◌}
use Rattle.large_solution.specs.Places.{edge_climbs}
use Rattle.large_solution.proofs.Places.edge_climbs.Goals as goal

pub returns-then-not-climbs_by : goal.returns-then-not-climbs_by
unfolding edge_climbs ◌&◌
returns-then-not-climbs_by c = rw (sym c.climbs_by.ensures ∙ c.if-not-climbs_by.true)

pub returns : goal.returns
unfolding edge_climbs ◌&◌
returns c = rw (sym c.climbs_by.ensures ∙ c.if-not-climbs_by.false) c.keeps_edge.ensures
