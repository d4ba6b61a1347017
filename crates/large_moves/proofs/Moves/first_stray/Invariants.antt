use mathlib.Core.Path.{◌≡◌}
use Rattle.theory.specs.Logic.Range.{first}
use Rattle.large_moves.specs.Moves.{move_strays}
use Rattle.large_moves.proofs.Moves.first_stray.Given as goal

abbrev pub invariant-loop-v : goal.invariant-loop-v
invariant-loop-v l = let p = move_strays l.self.game.now l.self.solution.now l.self.n l.self.m in
    first p 0 l.self.n ≡ first p l.v l.self.n
