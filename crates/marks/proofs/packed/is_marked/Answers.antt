-- A pair's number is below that of all pairs, so nothing wraps, and its mark is there.
use mathlib.Core.Path.{sym, ◌∙◌}
use Prim.Native.Nat.{◌+◌, ◌*◌, ◌<◌}
use native.Mathlib.Omega.{arith}
use native.Mathlib.Nat.{mul-le-mul}
use lib.Arith.{digits_lt}
use Rattle.table.specs.Limits.{pair_limit}
use Rattle.marks.specs.MarksLaws.{in_marks, relation_mark}
use Rattle.marks.proofs.packed.is_marked.Goals as goal
use Rattle.marks.proofs.packed.is_marked.Lts as lts
use Rattle.marks.proofs.packed.is_marked.Reads as reads
use Rattle.marks.proofs.packed.is_marked.Tie as tie

small : (s : lts.Start tie.the-claims reads.Pre reads.Post) → s.args.v * s.args.n + s.args.w < pair_limit
small s = omega (arith, digits_lt s.requires.0 s.requires.1, mul-le-mul s.requires.2 s.requires.2)

pub overflow_mul-v : goal.overflow_mul-v
overflow_mul-v c = omega (arith, small c.before.before)

pub overflow_add-v : goal.overflow_add-v
overflow_add-v c = omega (arith, small c.before.before)

pub is_mark-requires : goal.is_mark-requires
is_mark-requires c = in_marks c.args.n c.args.marks.now _ (digits_lt c.requires.0 c.requires.1) c.requires.2 c.requires.3

pub returns : goal.returns
returns c = c.is_mark.ensures ∙ sym (relation_mark c.args.n c.args.marks.now c.args.v c.args.w)
