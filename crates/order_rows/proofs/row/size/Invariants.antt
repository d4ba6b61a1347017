use mathlib.Core.Path.{◌≡◌}
use Prim.Native.Nat.{◌*◌}
use Rattle.theory.specs.Logic.Range.{count}
use Rattle.words.specs.Words.{has}
use Rattle.order_rows.proofs.row.size.Given as goal

abbrev pub invariant-loop-word : goal.invariant-loop-word
invariant-loop-word l = l.total ≡ count (l.word-index * 64) (has l.fn.a)
