use Rattle.plan_blocks.specs.Blocks.{link_by, Confined}
use Rattle.plan_blocks.specs.Refining.{Bounded}
use Rattle.plan_blocks.proofs.Links.remove.Given as goal

abbrev pub invariant-loop-v : goal.invariant-loop-v
invariant-loop-v l = Confined l.self.p l.self.player (link_by l.self.starts.now l.self.targets.now) l.self.priorities.now l.blocks × Bounded l.self.p l.self.priorities.now l.blocks l.leasts
