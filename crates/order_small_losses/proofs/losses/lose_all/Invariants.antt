use mathlib.Core.Path.{◌≡◌}
use Prim.Native.Nat.{◌+◌}
use lib.ListN.{length}
use Rattle.words.specs.Word.{word_bits, digit, lowest_bit}
use Rattle.words.specs.LeftLaws.{Onward}
use Rattle.order_sets.specs.Losses.{GameLosses}
use Rattle.order_small_losses.specs.Words.{bit}
use Rattle.order_small_losses.proofs.losses.lose_all.Given as goal

abbrev pub invariant-loop-left : goal.invariant-loop-left
invariant-loop-left l = Onward l.near l.left
    × (length l.next ≡ length l.initial.next)
    × GameLosses word_bits (bit l.edges) (bit l.related) (bit l.lost) (bit l.falls) (digit l.changed) (digit l.near) (0 + lowest_bit l.left) (bit l.next) (digit l.losing)

abbrev pub decreases-loop-left : goal.decreases-loop-left
decreases-loop-left l = l.left
