use mathlib.Core.Path.{◌≡◌}
use lib.ListN.{length}
use Rattle.table.specs.Table.{game_of}
use Rattle.order_rounds.specs.Rounds.{Parted, Started}
use Rattle.order_rounds.proofs.start.begin.Given as goal

abbrev pub invariant-loop-v : goal.invariant-loop-v
invariant-loop-v l = (length l.related ≡ length l.initial.related)
    × (length l.lost ≡ length l.initial.lost)
    × (length l.falls ≡ length l.initial.falls)
    × (length l.changed ≡ length l.initial.changed)
    × Parted (game_of l.game) l.v l.related l.lost l.falls
    × Started (game_of l.game) l.v l.changed
