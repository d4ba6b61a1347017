-- A vertex of the mask has a successor in l if it isn't apart from l, and if it stands in the row of predecessors of one in l.
use mathlib.Core.Path.{ap, ◌∙◌}
use mathlib.Core.Bool.{not}
use Rattle.theory.specs.Logic.Bools.{◌&◌}
use Rattle.words.specs.Words.{has}
use Rattle.order_sets.specs.LossesLaws.{near_is, near_apart}
use Rattle.order_rows.specs.Bits.{row_bits, cell}
use Rattle.order_losses.proofs.edges.near_within.Goals as goal

pub returns-then-size : goal.returns-then-size
returns-then-size c = let a = c.args in
    λ G s w h.
    c.without.ensures w h
    ∙ ap (λ b. has a.mask w & not b) (c.apart_of.ensures w h)
    ∙ near_apart row_bits G (cell a.edges.now) s (has a.l) (has a.mask w) w h

pub returns : goal.returns
returns c = let a = c.args in
    λ G s w h.
    c.common.ensures w h
    ∙ ap (λ b. has a.mask w & b) (c.unite.ensures w h ∙ near_is row_bits G (cell a.edges.now) s (has a.l) w h)
