use mathlib.Core.Path.{◌≡◌}
use Prim.Native.Nat.{◌+◌}
use Rattle.theory.specs.Logic.Range.{first}
use Rattle.table_convert.specs.ConvertCall.{oversize, first_oversize}
use Rattle.table_convert.proofs.writing.first_oversize.Given as goal

abbrev pub invariant-loop-k : goal.invariant-loop-k
invariant-loop-k l = first_oversize l.game ≡ first (oversize l.game) l.k (2 + l.n)
