-- The definition, computed.
use mathlib.Core.Path.{refl}
use Rattle.large_solution.specs.Places.{is_misplaced}
use Rattle.large_solution.proofs.Places.is_misplaced.Goals as goal

pub returns : goal.returns
unfolding is_misplaced
returns c = refl
