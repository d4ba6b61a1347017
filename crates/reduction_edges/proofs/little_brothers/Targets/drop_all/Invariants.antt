use mathlib.Core.Path.{◌≡◌}
use Prim.Native.Nat.{◌-◌}
use lib.ListN.{length}
use Rattle.words.specs.Words.{has}
use Rattle.order_sets.specs.MembersLaws.{Reached}
use Rattle.reduction_edges.proofs.LittleBrothersLaws.{DroppedTo}
use Rattle.reduction_edges.proofs.little_brothers.Targets.drop_all.Given as goal

abbrev pub invariant-loop-d : goal.invariant-loop-d
invariant-loop-d l = Reached (has l.self.row.now) l.self.n l.d × (length l.dropped ≡ length l.initial.dropped) × DroppedTo l.even l.self.n l.self.marks.now l.self.row.now l.d l.dropped

abbrev pub decreases-loop-d : goal.decreases-loop-d
decreases-loop-d l = l.self.n - l.d
