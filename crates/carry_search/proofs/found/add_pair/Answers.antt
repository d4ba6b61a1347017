-- Each store is within the work memory, which keeps its length.
use mathlib.Core.Path.{refl}
use native.Mathlib.Omega.{arith}
use lib.ListN.{length-set}
use Rattle.carry_search.proofs.found.add_pair.Goals as goal

pub bounds-work-pairs-2 : goal.bounds-work-pairs-2
bounds-work-pairs-2 c = simp length-set (omega arith)

pub bounds-work-pairs-3 : goal.bounds-work-pairs-3
bounds-work-pairs-3 c = simp length-set (omega arith)

pub bounds-work-chain-2 : goal.bounds-work-chain-2
bounds-work-chain-2 c = simp length-set (omega arith)

pub shape_of-work : goal.shape_of-work
shape_of-work c = simp length-set

pub returns : goal.returns
returns c = rw (← c.chain_of-chain.ensures.0) refl
