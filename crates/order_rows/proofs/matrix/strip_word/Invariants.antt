use mathlib.Core.Bool.{not}
use Prim.Native.Nat.{◌+◌}
use Rattle.theory.specs.Logic.Bools.{◌&◌}
use Rattle.words.specs.Words.{has}
use Rattle.order_rows.specs.Bits.{RowIs, cell}
use Rattle.words.specs.LeftLaws.{Left, done}
use Rattle.order_rows.proofs.matrix.strip_word.Given as goal

abbrev pub invariant-loop-left : goal.invariant-loop-left
invariant-loop-left l = Left l.which l.left
    × RowIs l.out (λ x. has l.initial.out x & not (done l.which (λ k. cell l.words (l.base + k) x) l.left))

abbrev pub decreases-loop-left : goal.decreases-loop-left
decreases-loop-left l = l.left
