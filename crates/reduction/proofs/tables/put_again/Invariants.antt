use mathlib.Core.Path.{◌≡◌}
use Prim.Native.Nat.{◌+◌}
use lib.ListN.{get_or}
use Rattle.theory.specs.Logic.Range.{tabulate}
use Rattle.table.specs.Placing.{placed}
use Rattle.reduction.proofs.tables.put_again.Given as goal

abbrev pub invariant-loop-i : goal.invariant-loop-i
invariant-loop-i l = l.words ≡ placed (l.at + l.count) (tabulate l.i (λ j. get_or l.initial.words (l.at + j) 0)) l.initial.words
