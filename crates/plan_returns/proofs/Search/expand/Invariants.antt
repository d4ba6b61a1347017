use lib.ListN.{get_or}
use Rattle.plan_returns.specs.Search.{Grown, followed}
use Rattle.plan_returns.specs.ReturnSearch.{passes}
use Rattle.plan_returns.proofs.Search.expand.Given as goal

abbrev pub invariant-loop-t : goal.invariant-loop-t
invariant-loop-t l = Grown l.self.links.p l.self.stamp (followed (passes l.self.links.priorities.now l.self.blocks.now l.self.least l.self.block) l.self.links.targets.now (get_or l.self.links.starts.now l.j 0) l.t)
    l.initial.memory.seen l.initial.memory.queue l.tail l.memory.seen l.memory.queue l.last
