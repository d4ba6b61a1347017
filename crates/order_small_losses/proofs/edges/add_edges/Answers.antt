-- The first j edges are in the words, both ways. Their ends are below 64, so the words of successors and of predecessors do not overlap.
use native.Mathlib.Omega.{arith}
use Prim.Native.Nat.{◌+◌, ◌<◌}
use lib.ListN.{length-set}
use Rattle.table.specs.Table.{source_at, target_at}
use Rattle.words.specs.Word.{word_bits}
use Rattle.order_sets.specs.EdgesLaws.{edges_start, edges_next}
use Rattle.order_small_losses.specs.EdgeWordsLaws.{word_added}
use Rattle.order_small_losses.proofs.edges.add_edges.Goals as goal

pub loop-j-init : goal.loop-j-init
loop-j-init c = edges_start _ _ _ c.requires.by_index

pub loop-j-preserved : goal.loop-j-preserved
loop-j-preserved c = let g = c.args.game.now in
    let p = c.requires.well_formed in
    let j = c.loop-j.j in
    let s : source_at g j < word_bits = omega (arith, p.0.sources j c.loop-j-test.true, p.1) in
    let t : target_at g j < word_bits = omega (arith, p.0.targets j c.loop-j-test.true, p.1) in
    rw (c.from-v.ensures, c.from-x.ensures) (
    edges_next word_bits g j _ _ _ s t c.loop-j.invariant
    (word_added _ (source_at g j) _ (omega arith) (target_at g j) _ (rw (c.from-v.ensures, c.from-x.ensures) at c.with.ensures))
    (word_added _ (word_bits + target_at g j) _ (simp length-set (omega arith)) (source_at g j) _ (rw (c.from-v.ensures, c.from-x.ensures) at c.with-in-loop-j.ensures))
    )
