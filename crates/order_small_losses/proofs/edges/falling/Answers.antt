-- The parts are put together as the definition has them.
use mathlib.Core.Path.{ap, ap₂, ◌∙◌}
use Rattle.theory.specs.Logic.Bools.{◌&◌, ◌or◌}
use Rattle.words.specs.Word.{word_bits, digit}
use Rattle.words.specs.WordLaws.{digit_or, digit_and}
use Rattle.order_sets.specs.Sets.{apart_in}
use Rattle.order_small_losses.specs.Words.{bit}
use Rattle.order_small_losses.proofs.edges.falling.Goals as goal

pub returns : goal.returns
returns c = let a = c.args in
    λ w h.
    digit_or _ _ w
    ∙ ap₂ ◌or◌ (digit_and _ _ w)
    (c.apart_of.ensures w h ∙ ap (λ b. b & apart_in word_bits (bit a.edges.now) w (digit a.x)) (c.without.ensures w h))
