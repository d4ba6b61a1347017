use Rattle.large_solution.specs.Runs.{Runs, steps_left}
use Rattle.large_solution.proofs.Places.first_bad_run.Given as goal

abbrev pub invariant-loop-k : goal.invariant-loop-k
invariant-loop-k l = Runs l.self.moves.game.now l.self.moves.solution.now l.self.certificate.now l.self.moves.n l.k l.j

abbrev pub decreases-loop-k : goal.decreases-loop-k
decreases-loop-k l = steps_left l.self.moves.game.now l.self.moves.solution.now l.self.certificate.now l.self.moves.n l.k l.j
