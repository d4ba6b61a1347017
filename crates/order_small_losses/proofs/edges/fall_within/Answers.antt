-- Of the vertices of the mask with a successor in l an Odd one falls, and an Even one if it has no successor in x, as defined.
use mathlib.Core.Path.{refl, ◌∙◌}
use Prim.Native.Nat.{◌*◌}
use Rattle.words.specs.Word.{word_bits, digit}
use Rattle.order_sets.specs.LossesLaws.{fall_rows}
use Rattle.order_small_losses.specs.Words.{bit}
use Rattle.order_small_losses.proofs.edges.fall_within.Goals as goal

pub returns : goal.returns
unfolding bit
returns c = let a = c.args in
    let near = c.near_within in
    λ G s w h.
    c.falling.ensures w h
    ∙ fall_rows word_bits G (bit a.edges.now) s (digit a.l) (digit a.x) (digit near.result) (bit a.edges.now (2 * word_bits))
    (digit a.mask w) w h refl (near.ensures G s w h)
