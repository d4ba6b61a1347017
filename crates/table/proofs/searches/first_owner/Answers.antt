-- The definition is the search's, at the table's own size.
use Rattle.table.specs.Reading.{first_owner}
use Rattle.table.proofs.searches.first_owner.Goals as goal

pub returns : goal.returns
unfolding first_owner
returns c = rw (← c.requires.0) c.first_at_least.ensures
