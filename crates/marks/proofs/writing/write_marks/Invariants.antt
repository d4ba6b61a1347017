use Prim.Native.Nat.{◌*◌}
use mathlib.Core.Path.{◌≡◌}
use Rattle.theory.specs.Logic.Range.{tabulate}
use Rattle.table.specs.Answers.{written}
use Rattle.order_rows.specs.Bits.{cell}
use Rattle.marks.specs.Marks.{bytes}
use Rattle.marks.specs.MarkWriting.{row_mark}
use Rattle.marks.proofs.writing.write_marks.Given as goal

abbrev pub invariant-loop-v : goal.invariant-loop-v
invariant-loop-v l = l.marks ≡ written (bytes (tabulate (l.v * l.n) (row_mark l.n (cell l.rows)))) l.initial.marks
