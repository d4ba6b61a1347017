use Prim.Native.Nat.{ℕ, ◌<◌}
use mathlib.Core.Bool.{So}
use Rattle.plan_blocks.specs.Refining.{fits}
use Rattle.plan_blocks.proofs.Links.all_fit.Given as goal

abbrev pub invariant-loop-u : goal.invariant-loop-u
invariant-loop-u l = (k : ℕ) → k < l.u → So (fits l.self.starts.now l.self.targets.now l.self.priorities.now l.blocks l.numbering.numbers.now l.numbering.leasts.now k)
