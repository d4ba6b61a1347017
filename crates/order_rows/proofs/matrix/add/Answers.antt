-- A word is of one row alone, so setting bit x mod 64 of word x / 64 in row v changes the bit of no other number or row.
use native.Mathlib.Omega.{arith}
use Rattle.order_rows.specs.MatrixLaws.{add_is}
use Rattle.order_rows.proofs.matrix.add.Goals as goal

pub returns : goal.returns
returns c = add_is _ _ _ _ _ c.requires.1 (omega (arith, c.requires)) c.with.ensures
