-- Invariant: d is below none of the row before w.
use mathlib.Core.Path.{refl, sym, ◌∙◌}
use Prim.Native.Nat.{◌+◌}
use native.Mathlib.Omega.{arith}
use Rattle.reduction_edges.proofs.WordsLaws.{word_some, beaten_here, beaten_next, beaten_none}
use Rattle.reduction_edges.proofs.little_brothers.Targets.is_beaten.Goals as goal

pub loop-w-init : goal.loop-w-init
loop-w-init c = (refl, λ x h l. absurd (omega arith))

pub returns-then-is_some : goal.returns-then-is_some
returns-then-is_some c = let q = sym (word_some _ _ _ _ _ _ c.beaten_word.ensures) ∙ sym c.is_some.ensures in
    sym (beaten_here _ _ _ _ _ (q ∙ c.if-is_some.true))

pub loop-w-preserved : goal.loop-w-preserved
loop-w-preserved c = let q = sym (word_some _ _ _ _ _ _ c.beaten_word.ensures) ∙ sym c.is_some.ensures in
    let l = c.loop-w in
    (omega (arith, l.invariant.0), beaten_next _ _ _ _ _ (q ∙ c.if-is_some.false) l.invariant.1)

pub returns : goal.returns
returns c = let l = c.loop-w in sym (beaten_none _ _ _ _ l.w c.loop-w-test.false l.invariant.1)

-- after the last word
pub returns-else-is_some : goal.returns-else-is_some
returns-else-is_some c = let q = sym (word_some _ _ _ _ _ _ c.beaten_word.ensures) ∙ sym c.is_some.ensures in
    let l = c.loop-w in
    sym (beaten_none _ _ _ _ (l.w + 64) (omega arith) (beaten_next _ _ _ _ _ (q ∙ c.if-is_some.false) l.invariant.1))
