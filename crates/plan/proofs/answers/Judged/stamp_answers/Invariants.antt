use lib.ListN.{get_or}
use Rattle.plan.specs.Stamps.{StampedTo}
use Rattle.plan.proofs.answers.Judged.stamp_answers.Given as goal

abbrev pub invariant-loop-t : goal.invariant-loop-t
invariant-loop-t l = StampedTo l.self.plan.now l.self.targets.now (get_or l.self.starts.now l.i 0) l.t l.stamp l.initial.stamps l.stamps
