-- The reverses of the losses in the words before v are losses too. A loss that word v gained meanwhile is the reverse of one at the start,
-- so its own reverse is a loss already.
use mathlib.Core.Path.{refl, ap, ◌∙◌}
use mathlib.Core.Bool.{not}
use Prim.Native.Nat.{◌+◌}
use native.Mathlib.Omega.{arith}
use Rattle.theory.proofs.Logic.RangeLaws.{first_ge}
use Rattle.words.specs.Word.{word_bits, digit}
use Rattle.order_sets.specs.MembersLaws.{reached_start, reached_next}
use Rattle.order_sets.specs.ReversesLaws.{mirror_start, mirror_next, mirror_end, mirror_none}
use Rattle.order_small_losses.specs.Words.{bit}
use Rattle.order_small_removal.proofs.reverses.complete.Goals as goal

pub returns-then-not-mirror : goal.returns-then-not-mirror
returns-then-not-mirror c = mirror_none word_bits _ (ap not c.if-not-mirror.true) _ _

pub loop-v-init : goal.loop-v-init
loop-v-init c = let a = c.args in
    let e = c.first_from-v.ensures in (
      rw e (reached_start (digit a.losing) word_bits),
      refl,
      rw e (mirror_start word_bits (digit a.losing) (bit a.next.now) (digit a.losing) (λ x h. refl)),
    )

pub loop-v-smaller : goal.loop-v-smaller
loop-v-smaller c = omega (arith, first_ge (digit c.args.losing) (c.loop-v.v + 1) word_bits, c.first_from-v-in-loop-v.ensures, c.loop-v-test.true)

pub loop-v-preserved : goal.loop-v-preserved
unfolding bit
loop-v-preserved c = let a = c.args in
    let i = c.loop-v.invariant in
    let h = c.loop-v-test.true in
    let e = c.first_from-v-in-loop-v.ensures in (
      rw e (reached_next (digit a.losing) word_bits c.loop-v.v h),
      c.lose_column-more.auto.next ∙ i.1,
      rw e (mirror_next word_bits (digit a.losing) (bit a.next.now) (digit a.losing) (λ x k. refl) c.loop-v.v _ _ _ _ _ h (i.0.1 h) i.2
          (λ x k. refl) c.lose_column-more.ensures),
    )

pub returns : goal.returns
returns c = let a = c.args in
    let i = c.loop-v.invariant in
    mirror_end word_bits (digit a.losing) (bit a.next.now) (digit a.losing) (λ x h. refl) a.mirror (ap not c.if-not-mirror.false) _ _ _
    (omega (arith, i.0.0, c.loop-v-test.false)) i.2
