-- As `fall_of`, with the vertices of the mask alone.
use mathlib.Core.Path.{◌∙◌}
use Rattle.words.specs.Words.{has}
use Rattle.order_sets.specs.LossesLaws.{fall_rows}
use Rattle.order_rows.specs.Bits.{row_bits, cell}
use Rattle.order_losses.proofs.edges.fall_within.Goals as goal

pub returns : goal.returns
returns c = let a = c.args in
    λ G s w h.
    c.falling.ensures w h
    ∙ fall_rows row_bits G (cell a.edges.now) s (has a.l) (has a.x) (has _) (has _) (has a.mask w) w h (c.row.ensures w h) (c.near_within-near.ensures G s w h)
