use mathlib.Core.Path.{◌≡◌}
use Prim.Native.Nat.{◌-◌}
use lib.ListN.{length}
use Rattle.words.specs.Words.{has}
use Rattle.order_rows.specs.Bits.{row_bits}
use Rattle.order_sets.specs.MembersLaws.{Reached}
use Rattle.order_removal.specs.RowRemoval.{TakenTo}
use Rattle.order_removal.proofs.rows.take_all.Given as goal

abbrev pub invariant-loop-a : goal.invariant-loop-a
invariant-loop-a l = Reached (has l.losing) row_bits l.a
    × (length l.related ≡ length l.initial.related)
    × (length l.lost ≡ length l.initial.lost)
    × (length l.falls ≡ length l.initial.falls)
    × TakenTo l.edges l.next l.losing l.a l.initial.related l.cleared l.related l.lost l.falls

abbrev pub decreases-loop-a : goal.decreases-loop-a
decreases-loop-a l = row_bits - l.a
