use mathlib.Core.Path.{◌≡◌}
use mathlib.Core.Bool.{false}
use lib.ListN.{get_or}
use Rattle.theory.specs.Logic.Range.{any_from}
use Rattle.plan.specs.Stamps.{unstamped_target}
use Rattle.plan.proofs.answers.Judged.some_unstamped.Given as goal

abbrev pub invariant-loop-t : goal.invariant-loop-t
invariant-loop-t l = any_from (get_or l.self.edge_starts.now l.v 0) l.t (unstamped_target l.stamps l.stamp l.self.edge_targets.now) ≡ false
