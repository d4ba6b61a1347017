-- The member is no vertex, or its class decides.
use borrow.Author.Tests.{le-leb, lt-leb}
use Rattle.theory.specs.Logic.Bools.{◌or◌}
use Rattle.large_images.specs.Images.{member_strays}
use Rattle.large_images.proofs.Merge.member_strays.Goals as goal

pub returns-then-self-v : goal.returns-then-self-v
unfolding member_strays ◌or◌
returns-then-self-v c = rw (le-leb _ _ c.if-self-v.true)

pub returns : goal.returns
unfolding member_strays ◌or◌
returns c = rw (lt-leb _ _ c.if-self-v.false)
