use mathlib.Core.Path.{◌≡◌}
use Rattle.theory.specs.Logic.Range.{first}
use Rattle.large_solution.specs.Places.{is_misplaced}
use Rattle.large_solution.proofs.Places.first_misplaced.Given as goal

abbrev pub invariant-loop-v : goal.invariant-loop-v
invariant-loop-v l = let p = is_misplaced l.self.certificate.now l.self.moves.n in
    first p 0 l.self.moves.n ≡ first p l.v l.self.moves.n
