-- The owners are the same, or the row of the class decides.
use borrow.Author.Tests.{eq-eqb, ne_eqb}
use Rattle.theory.specs.Logic.Bools.{◌&◌}
use Rattle.large_images.specs.Images.{owner_strays}
use Rattle.large_images.proofs.Merge.owner_strays.Goals as goal

pub returns-then-self-v : goal.returns-then-self-v
unfolding owner_strays ◌&◌
returns-then-self-v c = rw (eq-eqb _ _ c.if-self-v.true)

pub returns : goal.returns
unfolding owner_strays ◌&◌
returns c = rw (ne_eqb _ _ c.if-self-v.false) c.goes_on.ensures
