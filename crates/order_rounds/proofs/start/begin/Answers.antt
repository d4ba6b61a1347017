-- The rows before v are those of pass 0, and `changed` holds those that lost something.
-- Each vertex has a successor, so under all pairs every pair passes, which the state after pass 0 asks.
use mathlib.Core.Path.{◌≡◌, refl, sym, ◌∙◌}
use native.Mathlib.Omega.{arith}
use Rattle.table.specs.Table.{vertex_count, game_of}
use Rattle.table.specs.TableLaws.{game_total}
use Rattle.words.specs.Words.{has}
use Rattle.order_rows.specs.Bits.{row_bits}
use Rattle.order_rows.specs.MatrixLaws.{cell_row, added_alone}
use Rattle.order_sets.specs.RoundsLaws.{all_row, parted_none, started_none, started_next, begun}
use Rattle.order_rounds.proofs.start.begin.Goals as goal

pub loop-v-init : goal.loop-v-init
loop-v-init c = (refl, refl, refl, refl, parted_none row_bits _ _ _ _, started_none row_bits _ (has _) (λ x h. sym (cell_row _ x) ∙ c.requires.by_index x h))

pub start_row-requires-clause-well_formed : goal.start_row-requires-clause-well_formed
start_row-requires-clause-well_formed c = (c.requires.well_formed, c.loop-v-test.true, all_row row_bits _ (has _) c.requires.well_formed c.differing-all.ensures)

pub loop-v-preserved : goal.loop-v-preserved
loop-v-preserved c = let i = c.loop-v.invariant in
    let r = c.start_row in (
      r.auto.related ∙ i.0,
      r.auto.lost ∙ i.1,
      r.auto.falls ∙ i.2,
      c.add.auto.words ∙ i.3,
      r.ensures,
      started_next row_bits _ c.loop-v.v _ _ _ (has _) (has _) (has _) _ r.ensures i.5 c.row.ensures c.is_some.ensures (added_alone _ _ _ _ c.add.ensures),
    )

pub returns : goal.returns
unfolding game_of
returns c = let g = c.args.game.now in
    let i = c.loop-v.invariant in
    let e : c.loop-v.v ≡ vertex_count g = omega arith in
    begun row_bits (game_of g) _ _ _ _ (has _) c.requires.edge_rows.0 (game_total g c.requires.well_formed) (rw e at i.4) (rw e at i.5)
