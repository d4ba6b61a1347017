use mathlib.Core.Path.{◌≡◌}
use Prim.Native.Nat.{◌-◌}
use Rattle.theory.specs.Logic.Range.{tabulate}
use Rattle.table.specs.Table.{priority_at}
use Rattle.table.specs.Placing.{placed}
use Rattle.table_convert.proofs.writing.write_priorities.Given as goal

abbrev pub invariant-loop-v : goal.invariant-loop-v
invariant-loop-v l = l.output ≡ placed 2 (tabulate l.v (λ i. l.even - priority_at l.game i)) l.initial.output
