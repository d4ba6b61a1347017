-- The row of u in the flags starts at u × n.
use native.Mathlib.Omega.{arith}
use mathlib.Core.Path.{◌≡◌, ◌∙◌}
use Prim.Native.Nat.{◌+◌, ◌*◌, ◌≤◌}
use Rattle.theory.specs.Logic.Range.{first}
use Rattle.table.specs.Limits.{pair_limit}
use Rattle.table.specs.Flags.{flagged}
use Rattle.carry_replies.specs.SuccessorLaws.{first_shift, row_end}
use Rattle.carry_replies.proofs.next_successor.Goals as goal
use Rattle.carry_replies.proofs.next_successor.Lts as lts
use Rattle.carry_replies.proofs.next_successor.Reads as reads
use Rattle.carry_replies.proofs.next_successor.Tie as tie

inside : (c : lts.After-shared_slice_known tie.the-claims reads.Pre reads.Post) → let a = c.args in a.u * a.n + a.n ≤ pair_limit
inside c = row_end c.args.n c.args.u c.requires.2 c.requires.0

pub overflow_mul-base : goal.overflow_mul-base
overflow_mul-base c = omega (arith, inside c.before)

pub overflow_add-base : goal.overflow_add-base
overflow_add-base c = omega (arith, inside c.before, c.requires.1)

pub overflow_add-base-2 : goal.overflow_add-base-2
overflow_add-base-2 c = omega (arith, inside c.before)

pub next_member-requires : goal.next_member-requires
next_member-requires c = (omega (arith, c.requires.1), omega (arith, inside c.before, c.requires.3), omega (arith, inside c.before))

-- the member is that of the row, the start of the row later
found : (c : lts.After-next_member tie.the-claims reads.Pre reads.Post) → let a = c.args in c.next_member.result ≡ a.u * a.n + first (flagged a.n a.edges.now a.u) a.from a.n
unfolding flagged
found c =
    c.next_member.ensures ∙ first_shift _ (c.args.u * c.args.n) c.args.from c.args.n c.requires.1

pub overflow_sub-result : goal.overflow_sub-result
overflow_sub-result c = omega (arith, found c.before)

pub returns : goal.returns
returns c = omega (arith, found c.before)
