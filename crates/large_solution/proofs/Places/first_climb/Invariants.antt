use mathlib.Core.Path.{◌≡◌}
use Rattle.theory.specs.Logic.Range.{first}
use Rattle.large_solution.specs.Places.{edge_climbs}
use Rattle.large_solution.proofs.Places.first_climb.Given as goal

abbrev pub invariant-loop-j : goal.invariant-loop-j
invariant-loop-j l = let p = edge_climbs l.self.moves.game.now l.self.moves.solution.now l.self.certificate.now l.self.moves.n l.self.moves.m in
    first p 0 l.self.moves.m ≡ first p l.j l.self.moves.m
