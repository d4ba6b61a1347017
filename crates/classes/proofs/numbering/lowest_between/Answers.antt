-- No member lies before the lowest bit left: between one set bit and the next v's row has none. The word left is the measure.
use mathlib.Core.Path.{sym, ◌∙◌}
use Prim.Native.Nat.{◌+◌, ◌*◌, ◌<◌, ◌≤◌}
use native.Mathlib.Omega.{arith}
use native.Mathlib.Nat.{mul-le-mul}
use Rattle.words.specs.LeftLaws.{onward_start, onward_next}
use Rattle.table.specs.Limits.{pair_limit}
use Rattle.marks.specs.MarkWritingLaws.{row_inside}
use Rattle.classes.specs.MemberSearchLaws.{none_start, bit_inside, first_here, none_next, first_past}
use Rattle.classes.proofs.numbering.lowest_between.Goals as goal
use Rattle.classes.proofs.numbering.lowest_between.Lts as lts
use Rattle.classes.proofs.numbering.lowest_between.Reads as reads
use Rattle.classes.proofs.numbering.lowest_between.Tie as tie

-- the marks of the row lie among all
room : (s : lts.Start tie.the-claims reads.Pre reads.Post goal.the-invariant-loop-left goal.the-decreases-loop-left tie.handed_clauses) → let a = s.args in (a.v * a.n + a.n ≤ a.n * a.n) × (a.n * a.n ≤ pair_limit)
room s = (row_inside s.args.n s.args.v s.requires.v_lt_n.0, mul-le-mul s.requires.v_lt_n.1 s.requires.v_lt_n.1)

pub overflow_mul-v : goal.overflow_mul-v
overflow_mul-v c = omega (arith, room c.before.before)

pub overflow_add-v : goal.overflow_add-v
overflow_add-v c = omega (arith, room c.before.before, c.requires.from_le_end)

pub read_bits-left-requires : goal.read_bits-left-requires
read_bits-left-requires c = let r = room c.before.before in
    (omega (arith, c.requires.from_le_end), omega (arith, r, c.requires.from_le_end), omega (arith, r, c.requires.from_le_end, c.requires.v_lt_n.2))

pub loop-left-init : goal.loop-left-init
loop-left-init c = (onward_start _, none_start _ _ _ _ _ _ c.requires.from_le_end.0 c.read_bits-left.ensures)

-- the bit is that of a vertex before the end
inside : (c : lts.After-lowest tie.the-claims reads.Pre reads.Post goal.the-invariant-loop-left goal.the-decreases-loop-left tie.handed_clauses) → let a = c.args in a.from + c.lowest.result < a.end
inside c =
    bit_inside _ _ _ _ _ _ c.requires.from_le_end.0 c.read_bits-left.ensures _ _ c.loop-left.invariant.0 c.lowest.ensures

pub is_marked-requires : goal.is_marked-requires
is_marked-requires c = (omega (arith, inside c.before, c.requires.from_le_end.1), c.requires.v_lt_n.0, c.requires.v_lt_n.1, c.requires.v_lt_n.2)

pub returns-then-is_marked : goal.returns-then-is_marked
returns-then-is_marked c = first_here _ _ _ _ _ _ c.requires.from_le_end.0 c.read_bits-left.ensures _ _ c.loop-left.invariant.0 c.lowest.ensures c.loop-left.invariant.1
    (sym c.is_marked.ensures ∙ c.if-is_marked.true)

pub loop-left-preserved : goal.loop-left-preserved
loop-left-preserved c = let low = c.lowest.ensures in
    let e = c.rest-left.ensures in (
      onward_next _ _ _ low e _ c.loop-left.invariant.0,
      none_next _ _ _ _ _ _ c.requires.from_le_end.0 c.read_bits-left.ensures _ _ c.loop-left.invariant.0 low _ e c.loop-left.invariant.1
          (sym c.is_marked.ensures ∙ c.if-is_marked.false),
    )

pub returns : goal.returns
returns c = first_past _ _ _ _ _ _ c.requires.from_le_end.0 c.read_bits-left.ensures _ c.loop-left-test.false c.requires.from_le_end.2 c.loop-left.invariant.1
