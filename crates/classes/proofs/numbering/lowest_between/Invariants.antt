use Prim.Native.Nat.{◌+◌}
use Rattle.words.specs.Word.{lowest_bit}
use Rattle.words.specs.LeftLaws.{Onward}
use Rattle.classes.specs.MemberSearchLaws.{NoneBefore}
use Rattle.classes.proofs.numbering.lowest_between.Given as goal

abbrev pub invariant-loop-left : goal.invariant-loop-left
invariant-loop-left l = Onward l.initial.left l.left × NoneBefore l.n l.marks l.v l.from l.end (l.from + lowest_bit l.left)

abbrev pub decreases-loop-left : goal.decreases-loop-left
decreases-loop-left l = l.left
