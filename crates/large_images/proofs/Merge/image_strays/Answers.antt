-- The image is no edge, or its source differs, or its target decides.
use borrow.Author.Tests.{le-leb, lt-leb, eq-eqb, ne_eqb}
use Rattle.theory.specs.Logic.Bools.{◌or◌}
use Rattle.large_images.specs.Images.{image_strays}
use Rattle.large_images.proofs.Merge.image_strays.Goals as goal

pub returns-then-self-e : goal.returns-then-self-e
unfolding image_strays ◌or◌
returns-then-self-e c = rw (le-leb _ _ c.if-self-e.true)

pub returns-then-self-e-2 : goal.returns-then-self-e-2
unfolding image_strays ◌or◌
returns-then-self-e-2 c = rw (lt-leb _ _ c.if-self-e.false, ne_eqb _ _ c.if-self-e-2.true)

pub returns : goal.returns
unfolding image_strays ◌or◌
returns c = rw (lt-leb _ _ c.if-self-e.false, eq-eqb _ _ c.if-self-e-2.false)
