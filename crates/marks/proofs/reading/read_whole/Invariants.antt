use Prim.Native.Nat.{◌*◌}
use Rattle.marks.specs.MarkReading.{BitsRead}
use Rattle.marks.proofs.reading.read_whole.Given as goal

abbrev pub invariant-loop-k : goal.invariant-loop-k
invariant-loop-k l = BitsRead l.marks (l.first * 8) (8 * l.k) l.word
