use mathlib.Core.Path.{◌≡◌}
use Prim.Native.Nat.{◌-◌}
use lib.ListN.{length}
use Rattle.words.specs.Words.{has}
use Rattle.order_rows.specs.Bits.{row_bits, cell}
use Rattle.order_sets.specs.MembersLaws.{Reached}
use Rattle.order_sets.specs.ReversesLaws.{MirrorTo}
use Rattle.order_removal.proofs.reverses.complete.Given as goal

abbrev pub invariant-loop-v : goal.invariant-loop-v
invariant-loop-v l = Reached (has l.which) row_bits l.v
    × (length l.next ≡ length l.initial.next)
    × (length l.losing ≡ length l.initial.losing)
    × MirrorTo row_bits (has l.which) (cell l.initial.next) (has l.initial.losing) l.v (cell l.next) (has l.losing)

abbrev pub decreases-loop-v : goal.decreases-loop-v
decreases-loop-v l = row_bits - l.v
