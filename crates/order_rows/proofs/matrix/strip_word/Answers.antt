-- `out` is `from` without the rows of the bits that are no longer left; the word that is left is the measure.
-- An `out` with nothing in it stays so whatever else is taken out, so the early end is right.
use mathlib.Core.Path.{◌≡◌, sym, ap₂, ◌∙◌}
use mathlib.Core.Bool.{not, false}
use Prim.Native.Nat.{◌+◌}
use Rattle.theory.specs.Logic.Bools.{◌&◌}
use Rattle.theory.proofs.Logic.RangeLaws.{any_fails}
use Rattle.words.specs.Words.{has}
use Rattle.order_rows.specs.Bits.{row_bits, RowIs, cell}
use Rattle.words.specs.LeftLaws.{left_start, left_next, done, not_start, not_next, not_end, not_early}
use Rattle.order_rows.proofs.matrix.strip_word.Goals as goal
use Rattle.order_rows.proofs.matrix.strip_word.Lts as lts
use Rattle.order_rows.proofs.matrix.strip_word.Reads as reads
use Rattle.order_rows.proofs.matrix.strip_word.Tie as tie

pub loop-left-init : goal.loop-left-init
loop-left-init c = let a = c.args in (left_start a.which, λ x h. not_start a.which (λ k. cell a.words.now (a.base + k) x) (has a.from x))

-- what is left without the row, too
less : (c : lts.After-without tie.the-claims reads.Pre reads.Post goal.the-invariant-loop-left goal.the-decreases-loop-left) → let a = c.args in
    RowIs c.without-less.result
    (λ x.
    (has a.from x & not (done a.which (λ k. cell a.words.now (a.base + k) x) c.loop-left.left))
    & not (cell a.words.now (a.base + c.lowest.result) x))
less c x h = c.without-less.ensures x h ∙ ap₂ (λ b d. b & not d) (c.loop-left.invariant.1 x h) (c.row.ensures x h)

pub returns-then-not-is_some : goal.returns-then-not-is_some
returns-then-not-is_some c = let a = c.args in
    λ x h.
    let none : has c.without-less.result x ≡ false =
    any_fails row_bits (has c.without-less.result) (sym c.is_some.ensures ∙ c.if-not-is_some.true) x h in
    none ∙ sym (not_early a.which (λ k. cell a.words.now (a.base + k) x) _ _ c.loop-left.invariant.0 c.lowest.ensures (has a.from x)
    (sym (less c.before.before.before x h) ∙ none))

pub loop-left-smaller : goal.loop-left-smaller
loop-left-smaller c = c.rest-left.ensures.less

pub loop-left-preserved : goal.loop-left-preserved
loop-left-preserved c = let a = c.args in (
  left_next a.which _ _ c.loop-left.invariant.0 c.rest-left.ensures,
  λ x h.
      less c.before.before.before.before x h
      ∙ not_next a.which (λ k. cell a.words.now (a.base + k) x) _ _ _ c.loop-left.invariant.0 c.lowest.ensures c.rest-left.ensures (has a.from x),
)

pub returns : goal.returns
returns c = let a = c.args in
    λ x h. c.loop-left.invariant.1 x h ∙ not_end a.which (λ k. cell a.words.now (a.base + k) x) _ c.loop-left-test.false (has a.from x)
