use Rattle.order_rows.specs.Bits.{RowIs}
use Rattle.order_rows.specs.MatrixLaws.{united_to}
use Rattle.order_rows.proofs.matrix.unite.Given as goal

abbrev pub invariant-loop-j : goal.invariant-loop-j
invariant-loop-j l = RowIs l.out (λ x. united_to l.words l.base l.which x l.j)
