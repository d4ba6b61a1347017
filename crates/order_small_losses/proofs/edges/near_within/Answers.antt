-- A vertex of the mask has a successor in l if it isn't apart from l, and if it stands in the word of predecessors of one in l.
use mathlib.Core.Path.{ap, ◌∙◌}
use mathlib.Core.Bool.{not}
use Rattle.theory.specs.Logic.Bools.{◌&◌}
use Rattle.words.specs.Word.{word_bits, digit}
use Rattle.words.specs.WordLaws.{digit_and}
use Rattle.order_sets.specs.LossesLaws.{near_is, near_apart}
use Rattle.order_small_losses.specs.Words.{bit}
use Rattle.order_small_losses.proofs.edges.near_within.Goals as goal

pub returns-then-size : goal.returns-then-size
returns-then-size c = let a = c.args in
    λ G s w h.
    c.without.ensures w h
    ∙ ap (λ b. digit a.mask w & not b) (c.apart_of.ensures w h)
    ∙ near_apart word_bits G (bit a.edges.now) s (digit a.l) (digit a.mask w) w h

pub returns : goal.returns
returns c = let a = c.args in
    λ G s w h.
    digit_and _ _ w
    ∙ ap (λ b. digit a.mask w & b) (c.unite.ensures w h ∙ near_is word_bits G (bit a.edges.now) s (digit a.l) w h)
