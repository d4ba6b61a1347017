-- No place, or the definition at the vertices of the two places.
use borrow.Author.Tests.{lt-ltb, le-ltb}
use Rattle.theory.specs.Logic.Bools.{◌&◌}
use Rattle.large_solution.specs.Places.{place_over}
use Rattle.large_solution.proofs.Places.is_in_run.Goals as goal

pub returns-then-self-j : goal.returns-then-self-j
unfolding ◌&◌
returns-then-self-j c = rw (le-ltb _ _ c.if-self-j.true)

pub returns : goal.returns
unfolding place_over ◌&◌
returns c = rw (lt-ltb _ _ c.if-self-j.false) c.is_over.ensures
