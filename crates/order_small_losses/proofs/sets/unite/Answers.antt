-- `out` has the words of the bits that are no longer left. The word that is left is the measure: it loses its lowest bit.
use mathlib.Core.Path.{ap, ◌∙◌}
use Prim.Native.Nat.{◌+◌}
use Rattle.theory.specs.Logic.Bools.{◌or◌}
use Rattle.theory.proofs.Logic.BoolsLaws.{or_first}
use Rattle.words.specs.Word.{digit}
use Rattle.words.specs.WordLaws.{digit_zero, digit_or}
use Rattle.words.specs.LeftLaws.{left_start, left_next, or_start, or_next, or_end}
use Rattle.order_sets.specs.Sets.{united_in}
use Rattle.order_small_losses.specs.Words.{bit}
use Rattle.order_small_losses.proofs.sets.unite.Goals as goal

pub loop-left-init : goal.loop-left-init
loop-left-init c = let a = c.args in (left_start a.which, λ x h. or_start a.which (λ k. bit a.words.now (a.base + k) x) (digit 0 x))

pub loop-left-smaller : goal.loop-left-smaller
loop-left-smaller c = c.rest-left.ensures.less

pub loop-left-preserved : goal.loop-left-preserved
unfolding bit
loop-left-preserved c = let a = c.args in
    let low = c.lowest in (
      left_next a.which _ _ c.loop-left.invariant.0 c.rest-left.ensures,
      λ x h.
          digit_or _ _ x
          ∙ ap (λ b. b or bit a.words.now (a.base + low.result) x) (c.loop-left.invariant.1 x h)
          ∙ or_next a.which (λ k. bit a.words.now (a.base + k) x) _ _ _ c.loop-left.invariant.0 low.ensures c.rest-left.ensures (digit 0 x),
    )

pub returns : goal.returns
unfolding united_in
returns c = let a = c.args in
    λ x h.
    c.loop-left.invariant.1 x h ∙ or_end a.which (λ k. bit a.words.now (a.base + k) x) _ c.loop-left-test.false (digit 0 x)
    ∙ or_first _ (digit_zero x)
