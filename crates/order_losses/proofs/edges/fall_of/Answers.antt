-- `near` has the vertices with a successor in l; of these an Odd vertex falls, and an Even one if it has no successor in x, as defined.
use mathlib.Core.Path.{refl, sym, ◌∙◌}
use mathlib.Core.Bool.{true}
use Rattle.theory.proofs.Logic.BoolsLaws.{and_one}
use Rattle.words.specs.Words.{has}
use Rattle.order_sets.specs.LossesLaws.{near_is, fall_rows}
use Rattle.order_rows.specs.Bits.{row_bits, cell}
use Rattle.order_losses.proofs.edges.fall_of.Goals as goal

pub returns : goal.returns
returns c = let a = c.args in
    λ G s w h.
    c.falling.ensures w h
    ∙ fall_rows row_bits G (cell a.edges.now) s (has a.l) (has a.x) (has _) (has _) true w h (c.row.ensures w h)
    (c.unite-near.ensures w h ∙ near_is row_bits G (cell a.edges.now) s (has a.l) w h ∙ sym (and_one _ refl))
    ∙ and_one _ refl
