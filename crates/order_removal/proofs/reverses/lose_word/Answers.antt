-- The pairs of the bits that are no longer left are losses. The word that is left is the measure: it loses its lowest bit.
use mathlib.Core.Path.{refl, ◌∙◌}
use native.Mathlib.Omega.{arith}
use Rattle.words.specs.Words.{has}
use Rattle.words.specs.LeftLaws.{left_start, left_next}
use Rattle.order_sets.specs.ReversesLaws.{word_start, word_next, word_end}
use Rattle.order_rows.specs.Bits.{row_bits, cell}
use Rattle.order_removal.proofs.reverses.lose_word.Goals as goal

pub loop-left-init : goal.loop-left-init
loop-left-init c = let a = c.args in
    (refl, refl, left_start a.which, word_start row_bits a.base a.which a.v (cell a.next.now) (has a.losing.now))

pub lose_pair-requires : goal.lose_pair-requires
lose_pair-requires c = let i = c.loop-left.invariant in
    let p = c.requires in
    (omega (arith, p, i.0), omega (arith, p, i.1), omega (arith, p, c.lowest.ensures.inside), p.3)

pub loop-left-smaller : goal.loop-left-smaller
loop-left-smaller c = c.rest-left.ensures.less

pub loop-left-preserved : goal.loop-left-preserved
loop-left-preserved c = let i = c.loop-left.invariant in
    let a = c.args in
    let q = c.lose_pair in (
      q.auto.next ∙ i.0,
      q.auto.losing ∙ i.1,
      left_next a.which _ _ i.2 c.rest-left.ensures,
      word_next row_bits a.base a.which a.v (cell a.next.now) (has a.losing.now) _ _ _ _ _ _ _ i.2 c.lowest.ensures c.rest-left.ensures i.3 q.ensures,
    )

pub returns : goal.returns
returns c = let i = c.loop-left.invariant in
    let a = c.args in
    word_end row_bits a.base a.which a.v (cell a.next.now) (has a.losing.now) _ _ _ c.loop-left-test.false i.3
