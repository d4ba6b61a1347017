-- Before v, the marks of the v × n pairs of the rows before v are written; a row adds the n marks that follow them.
use native.Mathlib.Nat.{zero-mul}
use Rattle.order_rows.specs.Bits.{cell}
use Rattle.marks.specs.MarkWriting.{row_mark}
use Rattle.marks.specs.MarkWritingLaws.{held_none}
use Rattle.marks.proofs.writing.write_marks.Goals as goal

pub loop-v-init : goal.loop-v-init
loop-v-init c = let a = c.args in rw (zero-mul a.n) (held_none (row_mark a.n (cell a.rows.now)) a.marks.now)
