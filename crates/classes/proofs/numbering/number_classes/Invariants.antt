use mathlib.Core.Path.{◌≡◌}
use Rattle.theory.specs.Logic.Range.{tabulate}
use Rattle.theory.specs.Classes.Reduction.{class_number}
use Rattle.table.specs.Answers.{written}
use Rattle.marks.specs.Marks.{relation}
use Rattle.classes.specs.Numbering.{Numbered}
use Rattle.classes.proofs.numbering.number_classes.Given as goal

abbrev pub invariant-loop-v : goal.invariant-loop-v
invariant-loop-v l = (l.classes ≡ written (tabulate l.v (class_number l.n (relation l.n l.marks))) l.initial.classes) × Numbered l.n (relation l.n l.marks) l.v l.k l.classes l.reps
