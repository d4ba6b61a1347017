-- `out` is `from` without the words of the bits that are no longer left; the word that is left is the measure.
-- An `out` with nothing in it stays so whatever else is taken out, so the early end is right.
use mathlib.Core.Path.{◌≡◌, sym, ap, ap₂, ◌∙◌}
use mathlib.Core.Bool.{not, false}
use Prim.Native.Nat.{ℕ, ◌+◌}
use native.Mathlib.Nat.{zero-add}
use Rattle.theory.specs.Logic.Bools.{◌&◌}
use Rattle.words.specs.Word.{word_bits, digit}
use Rattle.words.specs.WordLaws.{digit_zero}
use Rattle.words.specs.LeftLaws.{left_start, left_next, done, not_start, not_next, not_end, not_early}
use Rattle.order_sets.specs.Sets.{Is, united_in}
use Rattle.order_small_losses.specs.Words.{bit}
use Rattle.order_small_losses.proofs.sets.strip.Goals as goal
use Rattle.order_small_losses.proofs.sets.strip.Lts as lts
use Rattle.order_small_losses.proofs.sets.strip.Reads as reads
use Rattle.order_small_losses.proofs.sets.strip.Tie as tie

pub loop-left-init : goal.loop-left-init
loop-left-init c = let a = c.args in (left_start a.which, λ x h. not_start a.which (λ k. bit a.words.now (0 + k) x) (digit a.from x))

-- what is left without the word, too
less : (c : lts.After-without tie.the-claims reads.Pre reads.Post goal.the-invariant-loop-left goal.the-decreases-loop-left) → let a = c.args in
    Is word_bits (digit c.without-less.result)
    (λ x.
    (digit a.from x & not (done a.which (λ k. bit a.words.now (0 + k) x) c.loop-left.left))
    & not (bit a.words.now (0 + c.lowest.result) x))
unfolding bit
less c x h = let a = c.args in
    c.without-less.ensures x h
    ∙ ap₂ (λ b d. b & not d) (c.loop-left.invariant.1 x h) (ap (λ (u : ℕ). bit a.words.now u x) (sym (zero-add _)))

pub returns-then-less-eq0 : goal.returns-then-less-eq0
unfolding united_in
returns-then-less-eq0 c = let a = c.args in
    λ x h.
    let none : digit c.without-less.result x ≡ false = ap (λ (y : ℕ). digit y x) c.if-less-eq0.true ∙ digit_zero x in
    digit_zero x
    ∙ sym (not_early a.which (λ k. bit a.words.now (0 + k) x) _ _ c.loop-left.invariant.0 c.lowest.ensures (digit a.from x)
    (sym (less c.before.before x h) ∙ none))

pub loop-left-smaller : goal.loop-left-smaller
loop-left-smaller c = c.rest-left.ensures.less

pub loop-left-preserved : goal.loop-left-preserved
loop-left-preserved c = let a = c.args in (
  left_next a.which _ _ c.loop-left.invariant.0 c.rest-left.ensures,
  λ x h.
      less c.before.before.before x h
      ∙ not_next a.which (λ k. bit a.words.now (0 + k) x) _ _ _ c.loop-left.invariant.0 c.lowest.ensures c.rest-left.ensures (digit a.from x),
)

pub returns : goal.returns
unfolding united_in
returns c = let a = c.args in
    λ x h. c.loop-left.invariant.1 x h ∙ not_end a.which (λ k. bit a.words.now (0 + k) x) _ c.loop-left-test.false (digit a.from x)
