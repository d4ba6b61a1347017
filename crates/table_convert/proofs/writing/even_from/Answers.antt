-- The next multiple of 2 is as far above q as q is above an even number.
use native.Mathlib.Omega.{arith}
use Rattle.table_convert.specs.LowestTable.{even_from}
use Rattle.table_convert.proofs.writing.even_from.Goals as goal

pub returns : goal.returns
unfolding even_from
returns c = omega (arith, c.next_multiple_of.ensures)
