use Prim.Native.Nat.{ℕ, ◌<◌}
use mathlib.Core.Path.{◌≡◌}
use lib.ListN.{get_or}
use Rattle.plan_returns.specs.Returns.{position_priority}
use Rattle.plan_returns.proofs.fill_priorities.Given as goal

abbrev pub invariant-loop-j : goal.invariant-loop-j
invariant-loop-j l = (i : ℕ) → i < l.j → get_or l.priorities i 0 ≡ position_priority l.game l.plan i
