use mathlib.Core.Path.{◌≡◌}
use Rattle.theory.specs.Logic.Range.{first}
use Rattle.large_reduction.specs.ReductionCall.{edge_descends}
use Rattle.large_reduction.proofs.searches.first_descent.Given as goal

abbrev pub invariant-loop-e : goal.invariant-loop-e
invariant-loop-e l = let p = edge_descends l.merge.reduced.now l.merge.k in
    first p 0 l.merge.q ≡ first p l.e l.merge.q
