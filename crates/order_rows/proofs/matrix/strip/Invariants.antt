use mathlib.Core.Bool.{not}
use Rattle.theory.specs.Logic.Bools.{◌&◌}
use Rattle.words.specs.Words.{has}
use Rattle.order_rows.specs.Bits.{RowIs}
use Rattle.order_rows.specs.MatrixLaws.{united_to}
use Rattle.order_rows.proofs.matrix.strip.Given as goal

abbrev pub invariant-loop-j : goal.invariant-loop-j
invariant-loop-j l = RowIs l.out (λ x. has l.initial.out x & not (united_to l.words 0 l.which x l.j))
