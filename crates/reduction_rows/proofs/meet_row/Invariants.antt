use Rattle.reduction_rows.specs.MetLaws.{PartMet}
use Rattle.reduction_rows.proofs.meet_row.Given as goal

abbrev pub invariant-loop-k : goal.invariant-loop-k
invariant-loop-k l = PartMet l.width l.r l.v l.k l.initial.words l.words
