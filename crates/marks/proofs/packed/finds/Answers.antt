-- Invariant: the search from k on answers as the whole search.
use Rattle.marks.specs.Marks.{InMarks}
use Rattle.theory.proofs.Logic.RangeLaws.{from_in, from_end, from_step}
use Rattle.marks.specs.MarkSearch.{has_mark}
use native.Mathlib.Omega.{arith}
use native.Mathlib.Nat.{le_refl}
use mathlib.Core.Path.{sym, ◌∙◌}
use Prim.Native.Nat.{◌+◌, ◌*◌}
use lib.ListN.{get_or}
use Rattle.std.proofs.Common.{rules}
use Rattle.marks.proofs.packed.finds.Goals as goal
use Rattle.marks.proofs.packed.finds.Lts as lts
use Rattle.marks.proofs.packed.finds.Reads as reads
use Rattle.marks.proofs.packed.finds.Tie as tie

-- the mark of the target at k is there
room : (c : lts.Else1 tie.the-claims reads.Pre reads.Post goal.the-invariant-loop-k goal.the-decreases-loop-k tie.handed_clauses)
    → let a = c.args in InMarks a.marks.now (a.base + get_or a.targets.now c.loop-k.k 0 * a.stride)
room c = c.requires.by_index c.loop-k.k c.loop-k.invariant.0 c.if-k-end.false

pub overflow_cast-at : goal.overflow_cast-at
overflow_cast-at c = omega (arith, c.shared_slice_known-in-loop-k-1.given c.loop-k.k)

pub overflow_mul-at : goal.overflow_mul-at
overflow_mul-at c = omega (arith, (room c.before.before).0)

pub overflow_add-at : goal.overflow_add-at
overflow_add-at c = omega (arith, (room c.before.before).0)

pub is_mark-requires : goal.is_mark-requires
is_mark-requires c = room c.before.before

pub loop-k-preserved : goal.loop-k-preserved
unfolding has_mark
loop-k-preserved c = let a = c.loop-k in
    (search rules, a.invariant.1 ∙ from_step _ _ _ (rw c.is_mark.ensures at c.if-is_mark-wanted.false))

pub returns-then-k-end : goal.returns-then-k-end
returns-then-k-end c = sym (c.loop-k.invariant.1 ∙ from_end _ _ _ c.if-k-end.true)

pub returns-then-is_mark-wanted : goal.returns-then-is_mark-wanted
unfolding has_mark
returns-then-is_mark-wanted c = let a = c.loop-k in
    sym (a.invariant.1 ∙ from_in _ _ _ _ (le_refl _) c.if-k-end.false (rw c.is_mark.ensures at c.if-is_mark-wanted.true))
