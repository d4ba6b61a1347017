use Prim.Native.Nat.{◌-◌}
use Rattle.plan_links.specs.PlanTable.{link_count, link_source}
use Rattle.carry_replies.specs.ChainLaws.{Passed}
use Rattle.carry_replies.specs.RepliesLaws.{link_keeps}
use Rattle.carry_replies.proofs.Replies.answer.Given as goal

abbrev pub invariant-loop-k : goal.invariant-loop-k
invariant-loop-k l = let s = l.self.seated in
    Passed (link_source s.plan.now) (link_count s.plan.now) l.lone (link_keeps s.game.now s.player s.plan.now s.seats.now l.w) l.i l.k

abbrev pub decreases-loop-k : goal.decreases-loop-k
decreases-loop-k l = link_count l.self.seated.plan.now - l.k
