use mathlib.Core.Path.{◌≡◌}
use Prim.Native.Nat.{◌≤◌, ◌-◌}
use Rattle.theory.specs.Logic.Range.{first}
use Rattle.words.specs.Words.{has}
use Rattle.order_rows.specs.Bits.{row_bits}
use Rattle.order_rows.proofs.row.first_from.Given as goal

abbrev pub invariant-loop-at : goal.invariant-loop-at
invariant-loop-at l = (l.at ≤ row_bits) × (first (has l.a) l.k row_bits ≡ first (has l.a) l.at row_bits)

abbrev pub decreases-loop-at : goal.decreases-loop-at
decreases-loop-at l = row_bits - l.at
