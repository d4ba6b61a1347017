use mathlib.Core.Path.{◌≡◌}
use lib.ListN.{length}
use Rattle.order_losses.specs.Losses.{EdgesTo}
use Rattle.order_losses.proofs.edges.add_edges.Given as goal

abbrev pub invariant-loop-j : goal.invariant-loop-j
invariant-loop-j l = (length l.edges ≡ length l.initial.edges) × EdgesTo l.game l.j l.edges
