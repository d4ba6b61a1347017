-- The positions before j have their priorities.
use native.Mathlib.Omega.{arith}
use Prim.Native.Nat.{ℕ, ◌<◌, ◌+◌}
use mathlib.Core.Path.{◌≡◌}
use Rattle.plan_returns.specs.Returns.{position_priority}
use Rattle.theory.proofs.Logic.ListLaws.{after_set}
use Rattle.plan_returns.proofs.fill_priorities.Goals as goal

pub loop-j-preserved : goal.loop-j-preserved
unfolding position_priority
loop-j-preserved c =
    let l = c.loop-j in
    after_set (λ (i x : ℕ). i < l.j + 1 → x ≡ position_priority c.args.game.now c.args.plan.now i) l.priorities l.j _
    (omega (arith, l.auto.priorities, c.requires.plan_in_bounds))
    (λ k. rw c.vertex_of.ensures)
    (λ i d k. l.invariant i (omega arith))
