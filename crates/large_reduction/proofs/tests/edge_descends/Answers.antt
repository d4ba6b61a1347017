-- The first edge, or the two sources decide.
use native.Mathlib.Omega.{arith}
use borrow.Author.Tests.{lt-ltb, le-ltb}
use Rattle.theory.specs.Logic.Bools.{◌&◌}
use Rattle.large_reduction.specs.ReductionCall.{edge_descends}
use Rattle.large_reduction.proofs.tests.edge_descends.Goals as goal

pub returns-then-e-eq0 : goal.returns-then-e-eq0
unfolding edge_descends ◌&◌
returns-then-e-eq0 c = rw (le-ltb 0 c.args.e (omega (arith, c.if-e-eq0.true)))

pub returns : goal.returns
unfolding edge_descends ◌&◌
returns c = rw (lt-ltb 0 c.args.e (omega (arith, c.if-e-eq0.false)))
