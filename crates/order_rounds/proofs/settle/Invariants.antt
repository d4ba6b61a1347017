use mathlib.Core.Path.{◌≡◌}
use Prim.Native.Nat.{◌-◌}
use lib.ListN.{length}
use Rattle.theory.specs.Order.Rows.{AfterRound}
use Rattle.table.specs.Table.{pair_count, game_of}
use Rattle.order_rows.specs.Bits.{cell}
use Rattle.order_losses.specs.Losses.{struck, Fell}
use Rattle.order_rounds.proofs.settle.Given as goal

abbrev pub invariant-loop-mirror : goal.invariant-loop-mirror
invariant-loop-mirror l = (length l.related ≡ length l.initial.related)
    × (length l.lost ≡ length l.initial.lost)
    × (length l.falls ≡ length l.initial.falls)
    × (length l.next ≡ length l.initial.next)
    × (length l.changed ≡ length l.initial.changed)
    × Fell (game_of l.game) l.related l.lost l.falls l.changed
    × AfterRound l.mirror (game_of l.game) l.passes (cell l.related) (struck l.changed l.lost)

abbrev pub decreases-loop-mirror : goal.decreases-loop-mirror
decreases-loop-mirror l = pair_count l.game - l.passes
