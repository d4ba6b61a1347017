use mathlib.Core.Path.{◌≡◌}
use lib.ListN.{get_or}
use Rattle.theory.specs.Logic.Range.{tabulate}
use Rattle.table.specs.Placing.{placed}
use Rattle.table.proofs.slices.copy.Given as goal

abbrev pub invariant-loop-j : goal.invariant-loop-j
invariant-loop-j l = l.words ≡ placed l.at (tabulate l.j (λ i. get_or l.from i 0)) l.initial.words
