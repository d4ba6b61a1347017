-- The definition is the search's, at the table's own sizes.
use Rattle.table.specs.Reading.{first_end}
use Rattle.table.proofs.searches.first_end.Goals as goal

pub returns : goal.returns
unfolding first_end
returns c = rw (← c.requires.vertices, ← c.requires.edges) c.first_at_least.ensures
