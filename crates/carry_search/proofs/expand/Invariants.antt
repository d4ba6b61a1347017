use Prim.Native.Nat.{◌+◌, ◌-◌, ◌≤◌}
use Rattle.plan_links.specs.PlanTable.{position_count}
use Rattle.carry_search.specs.SearchMemory.{Moved}
use Rattle.carry_search.specs.Work.{memory_in}
use Rattle.carry_search.specs.Search.{table_moves_below}
use Rattle.carry_search.proofs.expand.Given as goal

abbrev pub invariant-loop-w : goal.invariant-loop-w
invariant-loop-w l = let s = l.replies.seated in
    (l.w ≤ l.n)
    × Moved l.k (table_moves_below s.game.now s.player s.plan.now s.seats.now l.i l.u l.w) (position_count s.plan.now) (memory_in l.initial.work l.fn.counts) (memory_in l.work l.found)
    × (l.found.links ≤ l.most + 1)

abbrev pub decreases-loop-w : goal.decreases-loop-w
decreases-loop-w l = l.n - l.w
