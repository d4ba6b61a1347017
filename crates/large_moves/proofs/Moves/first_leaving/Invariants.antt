use mathlib.Core.Path.{◌≡◌}
use Rattle.theory.specs.Logic.Range.{first}
use Rattle.large_moves.specs.Moves.{edge_leaves}
use Rattle.large_moves.proofs.Moves.first_leaving.Given as goal

abbrev pub invariant-loop-j : goal.invariant-loop-j
invariant-loop-j l = let p = edge_leaves l.self.game.now l.self.solution.now l.self.n l.self.m in
    first p 0 l.self.m ≡ first p l.j l.self.m
