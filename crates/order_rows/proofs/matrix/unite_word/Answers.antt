-- `out` is `into` and the rows of the bits that are no longer left. The word that is left is the measure: it loses its lowest bit.
use mathlib.Core.Path.{ap₂, ◌∙◌}
use Prim.Native.Nat.{◌+◌}
use Rattle.theory.specs.Logic.Bools.{◌or◌}
use Rattle.words.specs.Words.{has}
use Rattle.order_rows.specs.Bits.{cell}
use Rattle.words.specs.LeftLaws.{left_start, left_next, or_start, or_next, or_end}
use Rattle.order_rows.proofs.matrix.unite_word.Goals as goal

pub loop-left-init : goal.loop-left-init
loop-left-init c = let a = c.args in (left_start a.which, λ x h. or_start a.which (λ k. cell a.words.now (a.base + k) x) (has a.into x))

pub loop-left-smaller : goal.loop-left-smaller
loop-left-smaller c = c.rest-left.ensures.less

pub loop-left-preserved : goal.loop-left-preserved
loop-left-preserved c = let a = c.args in
    let low = c.lowest.ensures in (
      left_next a.which _ _ c.loop-left.invariant.0 c.rest-left.ensures,
      λ x h.
          c.either-more.ensures x h
          ∙ ap₂ ◌or◌ (c.loop-left.invariant.1 x h) (c.row.ensures x h)
          ∙ or_next a.which (λ k. cell a.words.now (a.base + k) x) _ _ _ c.loop-left.invariant.0 low c.rest-left.ensures (has a.into x),
    )

pub returns : goal.returns
returns c = let a = c.args in
    λ x h. c.loop-left.invariant.1 x h ∙ or_end a.which (λ k. cell a.words.now (a.base + k) x) _ c.loop-left-test.false (has a.into x)
