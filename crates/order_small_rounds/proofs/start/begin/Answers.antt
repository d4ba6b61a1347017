-- The rows before v are those of pass 0, and `changed` holds those that lost something.
-- Each vertex has a successor, so under all pairs every pair passes, which the state after pass 0 asks.
use mathlib.Core.Path.{◌≡◌, refl}
use Prim.Native.Nat.{◌<◌}
use native.Mathlib.Omega.{arith}
use Rattle.table.specs.Table.{vertex_count, game_of}
use Rattle.table.specs.TableLaws.{game_total}
use Rattle.words.specs.Word.{word_bits}
use Rattle.words.specs.WordLaws.{digit_zero}
use Rattle.order_sets.specs.RoundsLaws.{all_row, parted_none, started_none, started_next, begun}
use Rattle.order_small_losses.specs.Words.{bit}
use Rattle.order_small_losses.specs.EdgeWordsLaws.{word_differs}
use Rattle.order_small_rounds.proofs.start.begin.Goals as goal

pub loop-v-init : goal.loop-v-init
loop-v-init c = (parted_none word_bits _ _ _ _, started_none word_bits _ _ (λ x h. digit_zero x))

pub start_row-requires-clause-well_formed : goal.start_row-requires-clause-well_formed
start_row-requires-clause-well_formed c =
    let p = c.requires.well_formed in
    (p.0, c.loop-v-test.true, all_row word_bits c.args.game.now _ p.0 (word_differs c.args.game.now _ _ _ _ c.differing_word-all.ensures))

pub bounds-lost-v : goal.bounds-lost-v
unfolding game_of
bounds-lost-v c =
    let inside : c.loop-v.v < word_bits = omega (arith, c.loop-v-test.true, c.requires.well_formed.2.small) in
    omega (arith, c.requires.word_bits_in_bounds.1)

pub with-changed-requires : goal.with-changed-requires
unfolding game_of
with-changed-requires c = omega (arith, c.loop-v-test.true, c.requires.well_formed.2.small)

pub loop-v-preserved : goal.loop-v-preserved
unfolding bit
loop-v-preserved c =
    let p = c.start_row.ensures in
    (p, started_next word_bits _ c.loop-v.v _ _ _ _ _ _ _ p c.loop-v.invariant.1 (λ x h. refl) c.is_some.ensures c.with-changed.ensures)

pub returns : goal.returns
unfolding game_of
returns c = let g = c.args.game.now in
    let i = c.loop-v.invariant in
    let e : c.loop-v.v ≡ vertex_count g = omega arith in
    begun word_bits (game_of g) _ _ _ _ _ c.requires.well_formed.2 (game_total g c.requires.well_formed.0) (rw e at i.0) (rw e at i.1)
