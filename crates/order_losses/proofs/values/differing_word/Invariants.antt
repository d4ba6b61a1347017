use mathlib.Core.Path.{◌≡◌}
use Prim.Native.Nat.{ℕ, ◌≤◌, ◌<◌}
use Rattle.words.specs.Word.{word_bits, digit}
use Rattle.order_losses.specs.ValuesLaws.{differs_to}
use Rattle.order_losses.proofs.values.differing_word.Given as goal

abbrev pub invariant-loop-w : goal.invariant-loop-w
invariant-loop-w l = (l.base < l.w → l.w ≤ l.end)
    × ((k : ℕ) → k < word_bits → digit l.out k ≡ differs_to l.words l.from l.value l.base l.w k)
