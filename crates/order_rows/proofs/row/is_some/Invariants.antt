use mathlib.Core.Path.{◌≡◌}
use Prim.Native.Nat.{◌*◌}
use Rattle.theory.specs.Logic.Range.{any_below}
use Rattle.words.specs.Word.{word_bits, digit}
use Rattle.words.specs.Words.{has}
use Rattle.order_rows.proofs.row.is_some.Given as goal

abbrev pub invariant-loop-word : goal.invariant-loop-word
invariant-loop-word l = any_below word_bits (digit l.all) ≡ any_below (l.word-index * 64) (has l.fn.a)
