-- The last edge, or the two sources decide.
use mathlib.Core.Path.{sym}
use borrow.Author.Tests.{lt-ltb}
use Rattle.theory.specs.Logic.Bools.{◌&◌}
use Rattle.large_images.specs.Images.{goes_on}
use Rattle.large_images.proofs.ImagesLaws.{goes_ends}
use Rattle.large_images.proofs.Merge.goes_on.Goals as goal

pub returns-then-self-e : goal.returns-then-self-e
returns-then-self-e c = sym (goes_ends _ _ _ _ c.if-self-e.true)

pub returns : goal.returns
unfolding goes_on ◌&◌
returns c = rw (lt-ltb _ _ c.if-self-e.false)
