use mathlib.Core.Path.{◌≡◌}
use lib.ListN.{length}
use Rattle.theory.specs.Logic.Range.{first}
use Rattle.plan_links.specs.Refusals.{beyond}
use Rattle.plan_links.proofs.first_beyond.Given as goal

abbrev pub invariant-loop-k : goal.invariant-loop-k
invariant-loop-k l = first (beyond l.n l.plan) 2 (length l.plan) ≡ first (beyond l.n l.plan) l.k (length l.plan)
