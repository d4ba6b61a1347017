-- The bits of the vertices from `base` to w are done and those from w on are 0; the word has no vertex from `end` on.
use mathlib.Core.Path.{sym, ap, ◌∙◌}
use mathlib.Core.Bool.{not}
use Prim.Native.Nat.{◌+◌, ◌-◌}
use native.Mathlib.Omega.{arith}
use lib.Dec.{eqb}
use lib.ListN.{get_or}
use Rattle.theory.specs.Logic.Bools.{◌&◌, ◌or◌}
use Rattle.words.specs.WordLaws.{digit_zero}
use Rattle.order_losses.specs.ValuesLaws.{differs_start, differs_next, differs_end}
use Rattle.order_losses.proofs.values.differing_word.Goals as goal

pub loop-w-init : goal.loop-w-init
loop-w-init c = let a = c.args in (
  λ h. absurd (omega (arith, h)),
  λ k h. digit_zero k ∙ sym (differs_start a.words.now a.from a.value a.base k),
)

pub loop-w-preserved : goal.loop-w-preserved
loop-w-preserved c = let a = c.args in (
  λ h. omega (arith, c.loop-w-test.true),
  λ k h.
      c.with-out.ensures k h
      ∙ ap (λ b. (eqb k (c.loop-w.w - a.base) & not (eqb (get_or a.words.now (a.from + c.loop-w.w) 0) a.value)) or b) (c.loop-w.invariant.1 k h)
      ∙ differs_next a.words.now a.from a.value a.base c.loop-w.w k c.loop-w.auto.w,
)

pub returns : goal.returns
returns c = let e = c.end_of-end.ensures in
    let a = c.args in
    λ k h.
    c.loop-w.invariant.1 k h
    ∙ differs_end a.words.now a.from a.value a.base a.n c.loop-w.w k (omega (arith, e, c.loop-w-test.false)) (λ m. omega (arith, e, c.loop-w.invariant.0 m)) h
