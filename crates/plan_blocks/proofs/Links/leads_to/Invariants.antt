use mathlib.Core.Path.{◌≡◌}
use lib.ListN.{get_or}
use Rattle.theory.specs.Logic.Range.{any_from}
use Rattle.plan_blocks.specs.Refining.{numbered, leads_to}
use Rattle.plan_blocks.proofs.Links.leads_to.Given as goal

abbrev pub invariant-loop-t : goal.invariant-loop-t
invariant-loop-t l = leads_to l.self.starts.now l.self.targets.now l.blocks l.numbers l.u l.least ≡ any_from l.t l.t-end (λ k. numbered l.blocks l.numbers l.block l.least (get_or l.self.targets.now k 0))
