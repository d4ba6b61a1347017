-- The marks of row v before w are written. Below n, w is a multiple of 64, so the bits of a word are the marks from (v, w) on.
use mathlib.Core.Path.{◌≡◌, refl, ◌∙◌}
use Prim.Native.Nat.{◌+◌, ◌*◌, ◌≤◌}
use native.Mathlib.Nat.{mul-le-mul}
use native.Mathlib.Omega.{arith}
use Rattle.table.specs.Limits.{pair_limit}
use Rattle.order_rows.specs.Bits.{cell}
use Rattle.marks.specs.MarkWritingLaws.{row_inside, row_start_lem, row_next, cells_are}
use Rattle.std.proofs.Common.{rules}
use Rattle.marks.proofs.writing.write_row.Goals as goal
use Rattle.marks.proofs.writing.write_row.Lts as lts
use Rattle.marks.proofs.writing.write_row.Reads as reads
use Rattle.marks.proofs.writing.write_row.Tie as tie

-- the row ends among the pairs, and those are not too many
inside : (s : lts.Start tie.the-claims reads.Pre reads.Post goal.the-invariant-loop-w goal.the-decreases-loop-w) → let a = s.args in (a.v * a.n + a.n ≤ a.n * a.n) × (a.n * a.n ≤ pair_limit)
inside s = (row_inside s.args.n s.args.v s.requires.0, mul-le-mul s.requires.1 s.requires.1)

pub overflow_mul-row : goal.overflow_mul-row
overflow_mul-row c = omega (arith, inside c.before.before.before)

pub loop-w-init : goal.loop-w-init
loop-w-init c = (search rules, search rules, refl, row_start_lem _ _ _ _)

pub end_of-end-requires : goal.end_of-end-requires
end_of-end-requires c = omega (arith, c.loop-w-test.true, c.requires)

pub overflow_add-row : goal.overflow_add-row
overflow_add-row c = omega (arith, inside c.before.before.before.before.before.before.before, c.loop-w.invariant.0)

pub overflow_mul-v : goal.overflow_mul-v
overflow_mul-v c = omega (arith, c.requires)

pub overflow_add-v : goal.overflow_add-v
overflow_add-v c = omega (arith, c.requires, c.loop-w.invariant.0)

pub offset_bounds-rows-v : goal.offset_bounds-rows-v
offset_bounds-rows-v c = omega (arith, c.requires, c.loop-w.invariant.0)

pub bounds-rows-v : goal.bounds-rows-v
bounds-rows-v c = omega (arith, c.requires, c.loop-w-test.true)

pub overflow_sub-end : goal.overflow_sub-end
overflow_sub-end c = omega (arith, c.end_of-end.ensures, c.loop-w-test.true)

pub write_bits-requires : goal.write_bits-requires
write_bits-requires c = let e = c.end_of-end.ensures in
    let t = c.loop-w-test.true in
    (omega (arith, e, t), omega (arith, e, t, inside c.before.before.before.before.before.before.before.before), omega (arith, e, t, inside c.before.before.before.before.before.before.before.before, c.requires.3, c.loop-w.invariant.2))

pub loop-w-smaller : goal.loop-w-smaller
loop-w-smaller c = omega (arith, c.end_of-end.ensures, c.loop-w-test.true)

pub loop-w-preserved : goal.loop-w-preserved
loop-w-preserved c = let e = c.end_of-end.ensures in
    let t = c.loop-w-test.true in
    let i = c.loop-w.invariant in (
      omega (arith, e),
      λ h. omega (arith, e, h, i.1 t),
      c.write_bits.auto.marks ∙ i.2,
      row_next c.args.n (cell c.args.rows.now) c.args.v c.loop-w.w _ _ _ _ _ c.requires.0 (omega (arith, e, t)) (omega (arith, e))
          (λ k h. cells_are c.args.rows.now c.args.v c.loop-w.w k (i.1 t) (omega (arith, e, h))) i.3 c.write_bits.ensures,
    )

pub returns : goal.returns
returns c = let e : c.loop-w.w ≡ c.args.n = omega (arith, c.loop-w-test.false, c.loop-w.invariant.0) in
    rw e at c.loop-w.invariant.3
