use mathlib.Core.Path.{◌≡◌}
use Prim.Native.Nat.{◌-◌}
use lib.ListN.{length}
use Rattle.words.specs.Word.{word_bits, digit}
use Rattle.order_sets.specs.MembersLaws.{Reached}
use Rattle.order_sets.specs.ReversesLaws.{MirrorTo}
use Rattle.order_small_losses.specs.Words.{bit}
use Rattle.order_small_removal.proofs.reverses.complete.Given as goal

abbrev pub invariant-loop-v : goal.invariant-loop-v
invariant-loop-v l = Reached (digit l.losing) word_bits l.v
    × (length l.next ≡ length l.initial.next)
    × MirrorTo word_bits (digit l.losing) (bit l.initial.next) (digit l.losing) l.v (bit l.next) (digit l.more)

abbrev pub decreases-loop-v : goal.decreases-loop-v
decreases-loop-v l = word_bits - l.v
