use mathlib.Core.Path.{◌≡◌}
use Prim.Native.Nat.{◌+◌, ◌*◌}
use lib.ListN.{length, get_or}
use Rattle.words.specs.Word.{lowest_bit}
use Rattle.words.specs.LeftLaws.{Onward}
use Rattle.order_losses.specs.Losses.{LossesTo}
use Rattle.order_losses.proofs.losses.lose_word.Given as goal

abbrev pub invariant-loop-left : goal.invariant-loop-left
invariant-loop-left l = Onward (get_or l.near l.j 0) l.left
    × (length l.next ≡ length l.initial.next)
    × (length l.losing ≡ length l.initial.losing)
    × LossesTo l.edges l.related l.lost l.falls l.changed l.near (l.j * 64 + lowest_bit l.left) l.next l.losing

abbrev pub decreases-loop-left : goal.decreases-loop-left
decreases-loop-left l = l.left
