use mathlib.Core.Path.{◌≡◌}
use lib.ListN.{length}
use Rattle.edit_run.specs.EnterLaws.{Going}
use Rattle.edit_run.proofs.run_pairs.Given as goal

abbrev pub invariant-loop-done : goal.invariant-loop-done
invariant-loop-done l = (length l.copies ≡ length l.initial.copies) × (length l.degrees ≡ length l.initial.degrees) × Going l.sources l.targets l.m l.count l.n l.size l.done l.copies l.degrees l.edges l.most
