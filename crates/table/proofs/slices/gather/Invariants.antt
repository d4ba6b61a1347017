use mathlib.Core.Path.{◌≡◌}
use Prim.Native.Nat.{◌+◌}
use lib.ListN.{get_or}
use Rattle.theory.specs.Logic.Range.{tabulate}
use Rattle.table.specs.Placing.{placed}
use Rattle.table.proofs.slices.gather.Given as goal

abbrev pub invariant-loop-c : goal.invariant-loop-c
invariant-loop-c l = l.words ≡ placed l.at (tabulate l.c (λ j. get_or l.from (l.start + get_or l.picks j 0) 0)) l.initial.words
