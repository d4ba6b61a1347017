-- One word more of row v is that of r, and the word written is of row v alone, so every other row is as before.
use native.Mathlib.Omega.{arith}
use Rattle.order_rows.specs.MatrixLaws.{put_next}
use Rattle.std.proofs.Common.{rules}
use Rattle.order_rows.proofs.matrix.put.Goals as goal

pub loop-k-preserved : goal.loop-k-preserved
loop-k-preserved c = (
  search rules,
  put_next c.loop-k.k _ _ c.args.v _ c.loop-k-test.true (omega (arith, c.loop-k.invariant.0, c.requires, c.loop-k-test.true)) c.loop-k.invariant.1,
)
