use mathlib.Core.Path.{◌≡◌}
use Prim.Native.Nat.{◌*◌, ◌/◌, ◌^◌}
use Rattle.marks.specs.MarkWriting.{BitsWritten}
use Rattle.marks.proofs.writing.write_whole.Given as goal

abbrev pub invariant-loop-k : goal.invariant-loop-k
invariant-loop-k l = (l.rest ≡ l.word / 2 ^ (8 * l.k)) × BitsWritten l.word l.at (8 * l.k) l.initial.marks l.marks
