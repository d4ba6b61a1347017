use mathlib.Core.Path.{◌≡◌}
use Rattle.theory.specs.Logic.Range.{first}
use Rattle.large_reduction.specs.ReductionCall.{priority_differs}
use Rattle.large_reduction.proofs.searches.first_different.Given as goal

abbrev pub invariant-loop-v : goal.invariant-loop-v
invariant-loop-v l = let p = priority_differs l.merge.game.now l.merge.reduced.now l.merge.classes.now in
    first p 0 l.merge.n ≡ first p l.v l.merge.n
