use mathlib.Core.Path.{◌≡◌}
use Prim.Native.Nat.{ℕ, ◌+◌, ◌<◌}
use Rattle.words.specs.Word.{word_bits, digit}
use Rattle.order_rows.specs.Bits.{apart}
use Rattle.words.specs.LeftLaws.{Left, picked}
use Rattle.order_rows.proofs.matrix.apart_word.Given as goal

abbrev pub invariant-loop-left : goal.invariant-loop-left
invariant-loop-left l = Left l.which l.left
    × ((i : ℕ) → i < word_bits → digit l.out i ≡ picked l.which (λ k. apart l.words (l.base + k) l.x) l.left i)

abbrev pub decreases-loop-left : goal.decreases-loop-left
decreases-loop-left l = l.left
