use mathlib.Core.Path.{◌≡◌}
use lib.ListN.{get_or}
use Rattle.theory.specs.Logic.Range.{tabulate}
use Rattle.table.specs.Answers.{written}
use Rattle.marks.proofs.writing.copy_marks.Given as goal

abbrev pub invariant-loop-i : goal.invariant-loop-i
invariant-loop-i l = l.to ≡ written (tabulate l.i (λ j. get_or l.from j 0)) l.initial.to
