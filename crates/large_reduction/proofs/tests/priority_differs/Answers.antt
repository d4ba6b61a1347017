-- The definition, computed.
use mathlib.Core.Path.{refl}
use Rattle.large_reduction.specs.ReductionCall.{priority_differs}
use Rattle.large_reduction.proofs.tests.priority_differs.Goals as goal

pub returns : goal.returns
unfolding priority_differs
returns c = refl
