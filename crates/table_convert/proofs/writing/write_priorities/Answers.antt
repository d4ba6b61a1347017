-- Invariant: the first v priorities are put, and the other words are as before.
use native.Mathlib.Omega.{arith}
use Rattle.table.specs.PlacingLaws.{placed_start, placed_more}
use Rattle.table_convert.proofs.writing.write_priorities.Goals as goal

pub loop-v-init : goal.loop-v-init
loop-v-init c = placed_start _ _ _

pub loop-v-preserved : goal.loop-v-preserved
loop-v-preserved c = rw (c.from.ensures, c.loop-v.invariant) (placed_more _ _ c.loop-v.v _ (omega arith))
