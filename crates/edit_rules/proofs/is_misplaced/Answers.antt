-- A case for each edit.
use Rattle.edit_rules.specs.Edges.{misplaced}
use Rattle.edit_rules.proofs.is_misplaced.Goals as goal

pub returns-in-Arrival : goal.returns-in-Arrival
unfolding misplaced
returns-in-Arrival c = rw c.in-Arrival.is

pub returns-in-Leaving : goal.returns-in-Leaving
unfolding misplaced
returns-in-Leaving c = rw c.in-Leaving.is
