use mathlib.Core.Path.{◌≡◌}
use Prim.Native.Nat.{◌-◌}
use lib.ListN.{length}
use Rattle.words.specs.Word.{word_bits, digit}
use Rattle.order_sets.specs.MembersLaws.{Reached}
use Rattle.order_sets.specs.Removal.{TakenIn}
use Rattle.order_small_losses.specs.Words.{bit}
use Rattle.order_small_removal.proofs.rows.take_all.Given as goal

abbrev pub invariant-loop-a : goal.invariant-loop-a
invariant-loop-a l = Reached (digit l.losing) word_bits l.a
    × (length l.related ≡ length l.initial.related)
    × (length l.lost ≡ length l.initial.lost)
    × (length l.falls ≡ length l.initial.falls)
    × TakenIn word_bits (bit l.edges) (bit l.next) (digit l.losing) l.a (bit l.initial.related) l.cleared (bit l.related) (bit l.lost) (bit l.falls)

abbrev pub decreases-loop-a : goal.decreases-loop-a
decreases-loop-a l = word_bits - l.a
