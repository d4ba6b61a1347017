use mathlib.Core.Path.{◌≡◌}
use Rattle.theory.specs.Logic.Range.{any_from}
use Rattle.marks.specs.MarkSearch.{search_ends}
use Rattle.marks.proofs.test.some_ends.Given as goal

abbrev pub invariant-loop-i : goal.invariant-loop-i
invariant-loop-i l = let p = search_ends l.marks l.targets l.ys.from l.ys.end l.across l.down l.wanted l.found in
    any_from l.fn.xs.from l.fn.xs.end p ≡ any_from l.i l.fn.xs.end p
