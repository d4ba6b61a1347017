-- The start is no edge, or its source differs, or its image decides.
use borrow.Author.Tests.{le-leb, lt-leb, eq-eqb, ne_eqb}
use Rattle.theory.specs.Logic.Bools.{◌or◌}
use Rattle.large_images.specs.Images.{start_strays}
use Rattle.large_images.proofs.Merge.start_strays.Goals as goal

pub returns-then-self-j : goal.returns-then-self-j
unfolding start_strays ◌or◌
returns-then-self-j c = rw (le-leb _ _ c.if-self-j.true)

pub returns-then-self-j-2 : goal.returns-then-self-j-2
unfolding start_strays ◌or◌
returns-then-self-j-2 c = rw (lt-leb _ _ c.if-self-j.false, ne_eqb _ _ c.if-self-j-2.true)

pub returns : goal.returns
unfolding start_strays ◌or◌
returns c = rw (lt-leb _ _ c.if-self-j.false, eq-eqb _ _ c.if-self-j-2.false) c.is_inner.ensures
