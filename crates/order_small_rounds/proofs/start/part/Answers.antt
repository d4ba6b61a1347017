-- The vertices of other priorities are taken out of all, and the fall is that of what is taken out with what is left. Each vertex has an edge.
use mathlib.Core.Path.{◌∙◌}
use Prim.Native.Nat.{◌<◌}
use native.Mathlib.Omega.{arith}
use Rattle.table.specs.Table.{game_of}
use Rattle.table.specs.TableLaws.{game_total}
use Rattle.words.specs.Word.{word_bits, digit}
use Rattle.order_sets.specs.Sets.{Is}
use Rattle.order_sets.specs.Rounds.{unequal}
use Rattle.order_sets.specs.RoundsLaws.{unequal_row, row_all, parted_row}
use Rattle.order_small_losses.specs.EdgeWordsLaws.{word_put, word_differs}
use Rattle.order_small_rounds.proofs.start.part.Goals as goal
use Rattle.order_small_rounds.proofs.start.part.Lts as lts
use Rattle.order_small_rounds.proofs.start.part.Reads as reads
use Rattle.order_small_rounds.proofs.start.part.Tie as tie

inside : (s : lts.Start tie.the-claims reads.Pre reads.Post tie.handed_clauses) → s.args.v < word_bits
unfolding game_of
inside s = omega (arith, s.requires.well_formed.1, s.requires.small_edges_in_bounds.1.small)

pub bounds-related-v : goal.bounds-related-v
bounds-related-v c = omega (arith, inside c.before.before.before.before.before.before.before.before.before.before, c.requires.word_bits_in_bounds.0)

pub bounds-lost-v : goal.bounds-lost-v
bounds-lost-v c = omega (arith, inside c.before.before.before.before.before.before.before.before.before.before, c.requires.word_bits_in_bounds.1)

pub bounds-falls-v : goal.bounds-falls-v
bounds-falls-v c = omega (arith, inside c.before.before.before.before.before.before.before.before.before.before.before, c.requires.word_bits_in_bounds.2)

taken_out : (c : lts.After-fall_of_all tie.the-claims reads.Pre reads.Post tie.handed_clauses) → let a = c.args in
    Is word_bits (digit c.differing_word-out.result) (unequal (game_of a.game.now) a.v)
taken_out c x h = let a = c.args in
    word_differs _ _ _ _ _ c.differing_word-out.ensures x h ∙ unequal_row a.game.now a.v x

pub returns : goal.returns
returns c = let a = c.args in
    let g = a.game.now in
    let e = c.requires.small_edges_in_bounds.1 in
    let all = c.requires.well_formed.2 in
    let fit = c.requires.word_bits_in_bounds in
    let w = c.without-left.ensures in
    parted_row word_bits (game_of g) a.v _ _ _ _ _ _ _ _ _ c.requires.parted_in
    (word_put a.related.now a.v _ (omega (arith, fit.0, inside c.before.before.before.before.before.before.before.before.before.before.before)))
    (word_put a.lost.now a.v _ (omega (arith, fit.1, inside c.before.before.before.before.before.before.before.before.before.before.before)))
    (word_put a.falls.now a.v _ (omega (arith, fit.2, inside c.before.before.before.before.before.before.before.before.before.before.before)))
    _ all (taken_out c.before) w _ e
    (c.fall_of_all.ensures (game_of g) e (game_total g c.requires.well_formed.0) (row_all word_bits (game_of g) a.v _ _ _ all (taken_out c.before) w))
