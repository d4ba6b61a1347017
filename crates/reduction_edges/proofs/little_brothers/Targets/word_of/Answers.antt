-- The word has the marks of the pairs, and the bit of d is taken out where d is among them.
use Prim.Native.Nat.{ℕ, ◌+◌, ◌*◌, ◌≤◌, ◌<◌}
use native.Mathlib.Nat.{mul-le-mul}
use native.Mathlib.Omega.{arith}
use Rattle.table.specs.Limits.{vertex_limit, pair_limit}
use Rattle.marks.specs.MarkWritingLaws.{row_inside}
use Rattle.reduction_edges.proofs.WordsLaws.{word_is}
use Rattle.reduction_edges.proofs.little_brothers.Targets.word_of.Goals as goal

-- the row ends among the pairs, and those are not too many
inside : {n d : ℕ} → n ≤ vertex_limit → d < n → (d * n + n ≤ n * n) × (n * n ≤ pair_limit)
inside {n = n} {d = d} l h = (row_inside n d h, mul-le-mul l l)

pub overflow_mul-d : goal.overflow_mul-d
overflow_mul-d c = omega (arith, inside c.args.self.marked.0 c.requires.0)

pub overflow_add-d : goal.overflow_add-d
overflow_add-d c = omega (arith, inside c.args.self.marked.0 c.requires.0, c.requires.1)

pub read_wide-word-requires : goal.read_wide-word-requires
read_wide-word-requires c =
    let e = c.end_of-end.ensures in
    let i = inside c.args.self.marked.0 c.requires.0 in
    (omega (arith, e), omega (arith, e, c.requires.1, i), omega (arith, e, c.requires.1, i, c.args.self.marked.1))

pub returns : goal.returns
returns c = word_is _ _ _ _ _ _ _ c.requires.2 c.end_of-end.ensures c.requires.1 c.read_wide-word.ensures c.with-own.ensures
