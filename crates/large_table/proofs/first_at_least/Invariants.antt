use mathlib.Core.Path.{◌≡◌}
use Rattle.theory.specs.Logic.Range.{first}
use Rattle.table.specs.Flags.{at_least}
use Rattle.large_table.proofs.first_at_least.Given as goal

abbrev pub invariant-loop-k : goal.invariant-loop-k
invariant-loop-k l = let p = at_least l.words l.limit in
    first p l.from l.end ≡ first p l.k l.end
