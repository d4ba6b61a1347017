-- The vertices of `near` before the lowest bit left are done, since none lies between one bit and the next; the word left is the measure.
use mathlib.Core.Path.{◌≡◌, refl, ap}
use Prim.Native.Nat.{ℕ, ◌+◌, ◌<◌}
use native.Mathlib.Nat.{zero-add}
use native.Mathlib.Omega.{arith}
use Rattle.words.specs.Word.{word_bits, digit, lowest_bit}
use Rattle.words.specs.WordLaws.{digit_zero}
use Rattle.words.specs.LeftLaws.{onward_start, onward_here, onward_next, lowest_none}
use Rattle.order_sets.specs.LossesLaws.{losses_start, losses_step, word_start, word_next}
use Rattle.order_small_losses.specs.EdgeWordsLaws.{word_put}
use Rattle.std.proofs.Common.{rules}
use Rattle.order_small_losses.proofs.losses.lose_all.Goals as goal

-- bits from bit 0 on
same : (word k : ℕ) → k < word_bits → digit word (0 + k) ≡ digit word k
same word k h = ap (digit word) (zero-add k)

pub loop-left-init : goal.loop-left-init
loop-left-init c = let near = c.args.near in (
  onward_start near,
  refl,
  λ G r f v.
      word_start word_bits _ (digit near) 0 near (same near) _ _ (losses_start word_bits _ (digit near) _ _ (λ x h. digit_zero x)),
)

pub loop-left-preserved : goal.loop-left-preserved
loop-left-preserved c = let near = c.args.near in
    let i = c.loop-left.invariant in
    let v = c.lowest-v.result in
    let m = c.lowest-v.ensures in
    let e = c.rest-left.ensures in
    let here : 0 + lowest_bit c.loop-left.left ≡ v = omega (arith, m.is) in
    let more : v + 1 ≡ 0 + v + 1 = omega arith in
    let on = onward_here _ _ _ m e near i.0 in (
      onward_next _ _ _ m e near i.0,
      search rules,
      λ G r f inside.
          word_next word_bits _ (digit near) 0 near (same near) _ _ _ _ _ i.0 m e
          (rw more at (losses_step word_bits _ (digit near) v _ _ _ _ _ _ on (rw here at (i.2 G r f inside))
          (c.lose-out.ensures G r (inside v m.inside on) f) (word_put _ v _ (search rules)) c.is_some.ensures c.with-losing.ensures)),
    )

pub returns : goal.returns
returns c = let e : lowest_bit c.loop-left.left ≡ 64 = rw c.loop-left-test.false lowest_none in
    rw e at c.loop-left.invariant.2
