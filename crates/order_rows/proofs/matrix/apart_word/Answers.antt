-- `out` holds the bits that are no longer left and whose rows do not meet x. The word that is left is the measure: it loses its lowest bit.
use mathlib.Core.Path.{◌≡◌, sym, ap, ap₂, ◌∙◌}
use mathlib.Core.Bool.{not}
use Prim.Native.Nat.{◌+◌}
use lib.Dec.{eqb}
use Rattle.theory.specs.Logic.Bools.{◌&◌, ◌or◌}
use Rattle.theory.proofs.Logic.RangeLaws.{any_ext}
use Rattle.words.specs.Words.{has}
use Rattle.order_sets.specs.Sets.{apart_in}
use Rattle.order_rows.specs.Bits.{row_bits, apart}
use Rattle.words.specs.WordLaws.{digit_zero}
use Rattle.words.specs.LeftLaws.{left_start, left_next, picked_start, picked_next, picked_end}
use Rattle.order_rows.proofs.matrix.apart_word.Goals as goal
use Rattle.order_rows.proofs.matrix.apart_word.Lts as lts
use Rattle.order_rows.proofs.matrix.apart_word.Reads as reads
use Rattle.order_rows.proofs.matrix.apart_word.Tie as tie

pub loop-left-init : goal.loop-left-init
loop-left-init c = let a = c.args in (
  left_start a.which,
  λ i h. digit_zero i ∙ sym (picked_start a.which (λ k. apart a.words.now (a.base + k) a.x) i),
)

pub loop-left-smaller : goal.loop-left-smaller
loop-left-smaller c = c.rest-left.ensures.less

-- whether the row meets x
free : (c : lts.After-meets tie.the-claims reads.Pre reads.Post goal.the-invariant-loop-left goal.the-decreases-loop-left)
    → let a = c.args in not c.meets.result ≡ apart a.words.now (a.base + c.lowest-k.result) a.x
unfolding apart_in
free c = let a = c.args in
    ap not (c.meets.ensures ∙ any_ext row_bits _ _ (λ y h. ap (λ b. b & has a.x y) (c.row.ensures y h)))

pub loop-left-preserved : goal.loop-left-preserved
loop-left-preserved c = let a = c.args in
    let low = c.lowest-k in (
      left_next a.which _ _ c.loop-left.invariant.0 c.rest-left.ensures,
      λ i h.
          c.with-out.ensures i h
          ∙ ap₂ (λ b d. (eqb i low.result & b) or d) (free c.before.before.before) (c.loop-left.invariant.1 i h)
          ∙ picked_next a.which (λ k. apart a.words.now (a.base + k) a.x) _ _ _ c.loop-left.invariant.0 low.ensures c.rest-left.ensures i,
    )

pub returns : goal.returns
returns c = let a = c.args in
    λ k h. c.loop-left.invariant.1 k h ∙ picked_end a.which (λ k. apart a.words.now (a.base + k) a.x) _ c.loop-left-test.false k
