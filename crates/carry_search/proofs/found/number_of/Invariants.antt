use Rattle.carry_search.specs.WalkLaws.{Along}
use Rattle.carry_search.proofs.found.number_of.Given as goal

abbrev pub invariant-loop-c : goal.invariant-loop-c
invariant-loop-c l = Along l.work l.counts l.i l.u l.c

abbrev pub decreases-loop-c : goal.decreases-loop-c
decreases-loop-c l = l.c
