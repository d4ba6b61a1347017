-- The number of an edge is below that of the flags.
use Prim.Native.Nat.{◌/◌, ◌<◌}
use native.Mathlib.Omega.{arith}
use lib.ListN.{length}
use Rattle.words.specs.Word.{word_bits}
use Rattle.table.specs.FlagsLaws.{edge_number_lt}
use Rattle.table.proofs.flags.flag_edge.Goals as goal
use Rattle.table.proofs.flags.flag_edge.Lts as lts
use Rattle.table.proofs.flags.flag_edge.Reads as reads
use Rattle.table.proofs.flags.flag_edge.Tie as tie

inside : (c : lts.After-edge_number tie.the-claims reads.Pre reads.Post tie.handed_clauses) → c.edge_number-i.result / word_bits < length c.args.flags.now
inside c =
    let p = c.requires.sized in
    omega (arith, c.edge_number-i.ensures, c.requires.pair_words_in_bounds, edge_number_lt c.args.game.now c.args.n c.args.m p.0 p.1 c.args.j p.2)

pub is_flagged-old-requires : goal.is_flagged-old-requires
is_flagged-old-requires c = inside c.before

pub raise-requires : goal.raise-requires
raise-requires c = inside c.before.before.before

pub returns : goal.returns
returns c = let e = c.edge_number-i.ensures in
    record { value = rw e at c.is_flagged-old.ensures; raised = rw e at c.raise.ensures }
