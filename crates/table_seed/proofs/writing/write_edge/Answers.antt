-- Two stores.
use Rattle.std.proofs.Common.{arith, length-set}
use Rattle.table_seed.proofs.writing.write_edge.Goals as goal

pub bounds-output-n-2 : goal.bounds-output-n-2
bounds-output-n-2 c = simp length-set (omega arith)

pub returns : goal.returns
returns c = let e = c.draw_below-target.ensures in record { state_value = e.1; output_value = rw e.0 }
