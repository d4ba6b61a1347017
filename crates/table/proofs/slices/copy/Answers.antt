-- Invariant: the first j words are put, and the others are as before.
use native.Mathlib.Omega.{arith}
use Rattle.table.specs.PlacingLaws.{placed_start, placed_more}
use Rattle.table.proofs.slices.copy.Goals as goal

pub loop-j-init : goal.loop-j-init
loop-j-init c = placed_start _ _ _

pub loop-j-preserved : goal.loop-j-preserved
loop-j-preserved c = rw c.loop-j.invariant (placed_more _ _ c.loop-j.j _ (omega arith))
