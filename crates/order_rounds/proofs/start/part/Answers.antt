-- The vertices of other priorities are taken out of all, and the fall is that of what is taken out with what is left. Each vertex has an edge.
use mathlib.Core.Path.{◌∙◌}
use Rattle.table.specs.Table.{game_of}
use Rattle.table.specs.TableLaws.{game_total}
use Rattle.words.specs.Words.{has}
use Rattle.order_rows.specs.Bits.{row_bits, RowIs}
use Rattle.order_sets.specs.Rounds.{unequal}
use Rattle.order_sets.specs.RoundsLaws.{unequal_row, row_all, parted_row}
use Rattle.order_rounds.proofs.start.part.Goals as goal

pub returns : goal.returns
returns c = let g = c.args.game.now in
    let e = c.requires.edge_rows.0 in
    let all = c.requires.well_formed.2 in
    let w = c.without-left.ensures in
    let taken : RowIs c.differing-out.result (unequal (game_of g) c.args.v) = λ x h. c.differing-out.ensures x h ∙ unequal_row g c.args.v x in
    parted_row row_bits (game_of g) c.args.v _ _ _ (has _) (has _) (has _) _ _ _ c.requires.parted c.put.ensures c.put-2.ensures c.put-3.ensures
    (has _) all taken w _ e
    (c.fall_of_all.ensures (game_of g) e (game_total g c.requires.well_formed.0) (row_all row_bits (game_of g) c.args.v (has _) (has _) (has _) all taken w))
