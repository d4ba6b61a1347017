-- Where l is the smaller, what falls as defined. Else all but what has to stay: what each vertex without a successor in x has is in l.
use mathlib.Core.Path.{refl, sym, ap, ap₂, ◌∙◌}
use mathlib.Core.Bool.{true, not}
use Prim.Native.Nat.{◌*◌}
use Rattle.theory.specs.Logic.Bools.{◌&◌}
use Rattle.theory.proofs.Logic.BoolsLaws.{and_one}
use Rattle.words.specs.Word.{word_bits, digit}
use Rattle.words.specs.WordLaws.{digit_or}
use Rattle.order_sets.specs.LossesLaws.{near_is, fall_rows, fall_rest}
use Rattle.order_small_losses.specs.Words.{bit}
use Rattle.order_small_losses.proofs.edges.fall_of_all.Goals as goal

pub returns-then-size : goal.returns-then-size
unfolding bit
returns-then-size c = let a = c.args in
    let near = c.unite in
    λ G s t v w h.
    c.falling.ensures w h
    ∙ fall_rows word_bits G (bit a.edges.now) s (digit a.l) (digit a.x) (digit near.result) (bit a.edges.now (2 * word_bits))
    true w h refl (near.ensures w h ∙ near_is word_bits G (bit a.edges.now) s (digit a.l) w h ∙ sym (and_one _ refl))
    ∙ and_one _ refl

pub returns : goal.returns
unfolding bit
returns c = let a = c.args in
    let near = c.unite-2 in
    let even = c.without in
    λ G s t v w h.
    c.without-2.ensures w h
    ∙ ap₂ (λ b d. b & not d) (digit_or _ _ w) (c.falling-2.ensures w h)
    ∙ fall_rest word_bits G (bit a.edges.now) s (digit a.l) (digit a.x) (digit near.result) (digit even.result) w h t v
    (near.ensures w h ∙ near_is word_bits G (bit a.edges.now) s (digit a.x) w h)
    (even.ensures w h ∙ ap (λ b. b & not (bit a.edges.now (2 * word_bits) w)) (digit_or _ _ w))
