use mathlib.Core.Path.{◌≡◌}
use lib.ListN.{length}
use Rattle.order_rows.specs.MatrixLaws.{PutTo}
use Rattle.order_rows.proofs.matrix.put.Given as goal

abbrev pub invariant-loop-k : goal.invariant-loop-k
invariant-loop-k l = (length l.words ≡ length l.initial.words) × PutTo l.k l.initial.words l.words l.v l.r
