use mathlib.Core.Path.{◌≡◌}
use Prim.Native.Nat.{◌*◌}
use lib.ListN.{length}
use Rattle.order_losses.specs.Losses.{LossesTo}
use Rattle.order_losses.proofs.losses.lose_all.Given as goal

abbrev pub invariant-loop-j : goal.invariant-loop-j
invariant-loop-j l = (length l.next ≡ length l.initial.next)
    × (length l.losing ≡ length l.initial.losing)
    × LossesTo l.edges l.related l.lost l.falls l.changed l.near (l.j * 64) l.next l.losing
