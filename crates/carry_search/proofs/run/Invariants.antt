use Prim.Native.Nat.{◌-◌}
use Rattle.table.specs.Limits.{position_limit}
use Rattle.carry_search.specs.RunLaws.{Runs}
use Rattle.carry_search.proofs.run.Given as goal

abbrev pub invariant-loop-k : goal.invariant-loop-k
invariant-loop-k l = let r = l.replies in
    let s = r.seated in
    Runs s.game.now s.player s.plan.now s.seats.now s.marks.now r.edges.now r.firsts.now r.follow.now l.w l.k l.work l.counts

abbrev pub decreases-loop-k : goal.decreases-loop-k
decreases-loop-k l = position_limit - l.k
