-- The words of `losing` before a are taken out, and a is in `losing` or 64. There are at most 64 × 64 pairs, which fit 32 bits.
use mathlib.Core.Path.{◌≡◌, refl, ◌∙◌}
use Prim.Native.Nat.{◌+◌}
use native.Mathlib.Omega.{arith}
use Rattle.theory.specs.Logic.Range.{count}
use Rattle.theory.proofs.Logic.RangeLaws.{first_ge}
use Rattle.theory.proofs.Logic.CountLaws.{count_le}
use Rattle.theory.proofs.Logic.SumLaws.{sum_le}
use Rattle.words.specs.Word.{word_bits, digit}
use Rattle.order_sets.specs.Sets.{struck}
use Rattle.order_sets.specs.MembersLaws.{reached_start, reached_next}
use Rattle.order_sets.specs.RemovalLaws.{taken_start, taken_next}
use Rattle.order_small_losses.specs.Words.{bit}
use Rattle.order_small_removal.proofs.rows.take_all.Goals as goal

pub loop-a-init : goal.loop-a-init
loop-a-init c = let a = c.args in
    let e = c.first_from-a.ensures in (
      rw e (reached_start (digit a.losing) word_bits),
      refl,
      refl,
      refl,
      rw e (taken_start word_bits (bit a.edges.now) (bit a.next.now) (digit a.losing)
          (bit a.related.now) (bit a.lost.now) (bit a.falls.now)),
    )

pub overflow_add-cleared : goal.overflow_add-cleared
overflow_add-cleared c = let a = c.args in
    let i = c.loop-a.invariant in
    omega (
      arith,
      i.4.size,
      c.take_row-cleared.ensures.size,
      i.0.0,
      sum_le c.loop-a.a word_bits (λ u. count word_bits (struck (digit a.losing) (bit a.next.now) u))
          (λ u. count_le word_bits (struck (digit a.losing) (bit a.next.now) u)),
      count_le word_bits (bit a.next.now c.loop-a.a),
    )

pub loop-a-smaller : goal.loop-a-smaller
loop-a-smaller c = omega (arith, first_ge (digit c.args.losing) (c.loop-a.a + 1) word_bits, c.first_from-a-in-loop-a.ensures, c.loop-a-test.true)

pub loop-a-preserved : goal.loop-a-preserved
loop-a-preserved c = let a = c.args in
    let h = c.loop-a-test.true in
    let k = c.take_row-cleared.auto in
    let i = c.loop-a.invariant in
    let e = c.first_from-a-in-loop-a.ensures in (
      rw e (reached_next (digit a.losing) word_bits c.loop-a.a h),
      k.related ∙ i.1,
      k.lost ∙ i.2,
      k.falls ∙ i.3,
      rw e (taken_next word_bits (bit a.edges.now) (bit a.next.now) (digit a.losing) (bit a.related.now) c.loop-a.a (i.0.1 h) h
          _ _ _ _ _ _ _ _ i.4 c.take_row-cleared.ensures),
    )

pub returns : goal.returns
returns c = let e : c.loop-a.a ≡ word_bits = omega (arith, c.loop-a.invariant.0.0, c.loop-a-test.false) in
    rw e at c.loop-a.invariant.4
