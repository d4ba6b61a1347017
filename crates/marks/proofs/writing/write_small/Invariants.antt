use Prim.Native.Nat.{◌*◌}
use mathlib.Core.Path.{◌≡◌}
use lib.ListN.{get_or}
use Rattle.theory.specs.Logic.Range.{tabulate}
use Rattle.table.specs.Answers.{written}
use Rattle.words.specs.Word.{digit}
use Rattle.marks.specs.Marks.{bytes}
use Rattle.marks.specs.MarkWriting.{row_mark}
use Rattle.marks.proofs.writing.write_small.Given as goal

abbrev pub invariant-loop-v : goal.invariant-loop-v
invariant-loop-v l = l.marks ≡ written (bytes (tabulate (l.v * l.n) (row_mark l.n (λ u x. digit (get_or l.rows u 0) x)))) l.initial.marks
