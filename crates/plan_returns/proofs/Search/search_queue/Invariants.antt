use Prim.Native.Nat.{ℕ, ◌≤◌, ◌-◌}
use mathlib.Core.List.{List}
use Rattle.std.specs.Prelude.{Bool}
use Rattle.plan_blocks.specs.Blocks.{link_by}
use Rattle.plan_returns.specs.Search.{Searched}
use Rattle.plan_returns.specs.ReturnSearch.{passes}
use Rattle.plan_returns.proofs.Search.search_queue.Given as goal

pub record Inv (p : ℕ) (link : ℕ → ℕ → Bool) (pass : ℕ → Bool) (i stamp : ℕ) (seen queue : List ℕ) (head tail : ℕ) : Type 0 where
  pub order : head ≤ tail
  pub searched : Searched p link pass i stamp seen queue head tail

abbrev pub invariant-loop-head : goal.invariant-loop-head
invariant-loop-head l = Inv l.self.links.p (link_by l.self.links.starts.now l.self.links.targets.now)
    (passes l.self.links.priorities.now l.self.blocks.now l.self.least l.self.block) l.self.i l.self.stamp l.memory.seen l.memory.queue l.head l.tail

abbrev pub decreases-loop-head : goal.decreases-loop-head
decreases-loop-head l = l.self.links.p - l.head
