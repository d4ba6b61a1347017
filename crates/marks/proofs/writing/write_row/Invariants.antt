use mathlib.Core.Path.{◌≡◌}
use Prim.Native.Nat.{◌-◌, ◌%◌, ◌≤◌, ◌<◌}
use lib.ListN.{length}
use Rattle.order_rows.specs.Bits.{cell}
use Rattle.marks.specs.MarkWriting.{RowWritten}
use Rattle.marks.proofs.writing.write_row.Given as goal

abbrev pub invariant-loop-w : goal.invariant-loop-w
invariant-loop-w l = (l.w ≤ l.n)
    × (l.w < l.n → l.w % 64 ≡ 0)
    × (length l.marks ≡ length l.initial.marks)
    × RowWritten l.n (cell l.rows) l.v l.w l.initial.marks l.marks

abbrev pub decreases-loop-w : goal.decreases-loop-w
decreases-loop-w l = l.n - l.w
