-- The number of the pair is below that of the flags.
use Prim.Native.Nat.{◌+◌, ◌*◌, ◌<◌}
use native.Mathlib.Omega.{arith}
use Rattle.table.specs.Limits.{pair_limit}
use Rattle.table.specs.Flags.{flagged}
use Rattle.table.specs.FlagsLaws.{pair_lt}
use Rattle.table.proofs.flags.is_edge.Goals as goal
use Rattle.table.proofs.flags.is_edge.Lts as lts
use Rattle.table.proofs.flags.is_edge.Reads as reads
use Rattle.table.proofs.flags.is_edge.Tie as tie

inside : (c : lts.After-shared_slice_known tie.the-claims reads.Pre reads.Post) → let a = c.args in a.v * a.n + a.x < pair_limit
inside c =
    pair_lt c.args.n c.args.v c.args.x c.requires.2 c.requires.0 c.requires.1

pub overflow_mul-v : goal.overflow_mul-v
overflow_mul-v c = omega (arith, inside c.before)

pub overflow_add-v : goal.overflow_add-v
overflow_add-v c = omega (arith, inside c.before)

pub is_flagged-requires : goal.is_flagged-requires
is_flagged-requires c = omega (arith, inside c.before, c.requires.3)

pub returns : goal.returns
unfolding flagged
returns c = c.is_flagged.ensures
