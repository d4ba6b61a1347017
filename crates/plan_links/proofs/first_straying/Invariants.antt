use mathlib.Core.Path.{◌≡◌}
use Rattle.theory.specs.Logic.Range.{first}
use Rattle.plan_links.specs.Refusals.{strays, first_stray}
use Rattle.plan_links.proofs.first_straying.Given as goal

abbrev pub invariant-loop-k : goal.invariant-loop-k
invariant-loop-k l = first_stray l.game l.plan ≡ first (strays l.game l.plan) l.k l.l
