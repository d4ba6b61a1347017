-- Invariant: the first c words are put, and the others are as before.
use native.Mathlib.Omega.{arith}
use Rattle.table.specs.PlacingLaws.{placed_start, placed_more}
use Rattle.table.proofs.slices.gather.Goals as goal

pub loop-c-init : goal.loop-c-init
loop-c-init c = placed_start _ _ _

pub loop-c-preserved : goal.loop-c-preserved
loop-c-preserved c = rw (c.from.ensures, c.loop-c.invariant) (placed_more _ _ c.loop-c.c _ (omega arith))
