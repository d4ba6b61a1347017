-- The first edge, or the two sources decide.
use native.Mathlib.Omega.{arith}
use borrow.Author.Tests.{lt-ltb, le-ltb}
use Rattle.theory.specs.Logic.Bools.{◌&◌}
use Rattle.large_images.specs.Images.{is_inner}
use Rattle.large_images.proofs.Merge.is_inner.Goals as goal

pub returns-then-e-eq0 : goal.returns-then-e-eq0
unfolding is_inner ◌&◌
returns-then-e-eq0 c = rw (le-ltb 0 c.args.e (omega (arith, c.if-e-eq0.true)))

pub returns : goal.returns
unfolding is_inner ◌&◌
returns c = rw (lt-ltb 0 c.args.e (omega (arith, c.if-e-eq0.false)))
