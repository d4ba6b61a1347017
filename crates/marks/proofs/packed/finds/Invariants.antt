use Rattle.theory.specs.Logic.Range.{any_from}
use Rattle.marks.specs.MarkSearch.{has_mark}
use mathlib.Core.Path.{◌≡◌}
use Prim.Native.Nat.{◌-◌, ◌≤◌}
use Rattle.marks.proofs.packed.finds.Given as goal

abbrev pub invariant-loop-k : goal.invariant-loop-k
invariant-loop-k l = let p = has_mark l.marks l.targets l.base l.stride l.wanted in (l.initial.k ≤ l.k) × (any_from l.initial.k l.end p ≡ any_from l.k l.end p)

abbrev pub decreases-loop-k : goal.decreases-loop-k
decreases-loop-k l = l.end - l.k
