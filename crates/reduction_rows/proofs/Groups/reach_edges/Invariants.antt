use Rattle.reduction_rows.specs.ReachedLaws.{Placed}
use Rattle.reduction_rows.proofs.Groups.reach_edges.Given as goal

abbrev pub invariant-loop-j : goal.invariant-loop-j
invariant-loop-j l = Placed l.self.game.now l.self.width l.j l.words
