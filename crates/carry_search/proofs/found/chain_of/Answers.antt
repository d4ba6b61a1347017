-- It is the definition, and a remainder is below its divisor.
use mathlib.Core.Path.{refl}
use native.Mathlib.Omega.{arith}
use Rattle.carry_search.specs.Chains.{chain_of}
use Rattle.carry_search.proofs.found.chain_of.Goals as goal

pub returns : goal.returns
unfolding chain_of
returns c = (refl, omega arith)
