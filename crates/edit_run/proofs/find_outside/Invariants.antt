use mathlib.Core.Path.{◌≡◌}
use Rattle.theory.specs.Logic.Range.{first}
use Rattle.edit_run.specs.Gathered.{outside}
use Rattle.edit_run.proofs.find_outside.Given as goal

abbrev pub invariant-loop-i : goal.invariant-loop-i
invariant-loop-i l = first (outside l.trace l.n) 0 l.count ≡ first (outside l.trace l.n) l.i l.count
