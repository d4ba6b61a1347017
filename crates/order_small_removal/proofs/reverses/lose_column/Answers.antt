-- The pairs of the bits that are no longer left are losses. The word that is left is the measure: it loses its lowest bit.
use mathlib.Core.Path.{refl, ◌∙◌}
use native.Mathlib.Omega.{arith}
use Rattle.words.specs.Word.{word_bits, digit}
use Rattle.words.specs.LeftLaws.{left_start, left_next}
use Rattle.order_sets.specs.ReversesLaws.{word_start, word_next, word_end}
use Rattle.order_small_losses.specs.Words.{bit}
use Rattle.order_small_removal.specs.ColumnWordLaws.{pair_base, column_word}
use Rattle.order_small_removal.proofs.reverses.lose_column.Goals as goal

pub loop-left-init : goal.loop-left-init
loop-left-init c = let a = c.args in (refl, left_start a.which, word_start word_bits 0 a.which a.v (bit a.next.now) (digit a.losing))

pub lose_pair-more-requires : goal.lose_pair-more-requires
lose_pair-more-requires c = (omega (arith, c.requires, c.loop-left.invariant.0), c.lowest.ensures.inside, c.requires.1)

pub loop-left-smaller : goal.loop-left-smaller
loop-left-smaller c = c.rest-left.ensures.less

pub loop-left-preserved : goal.loop-left-preserved
loop-left-preserved c = let i = c.loop-left.invariant in
    let a = c.args in (
      c.lose_pair-more.auto.next ∙ i.0,
      left_next a.which _ _ i.1 c.rest-left.ensures,
      word_next word_bits 0 a.which a.v (bit a.next.now) (digit a.losing) _ _ _ _ _ _ _ i.1 c.lowest.ensures c.rest-left.ensures i.2
          (pair_base _ _ _ _ _ _ c.lose_pair-more.ensures),
    )

pub returns : goal.returns
returns c = let a = c.args in
    column_word _ _ _ _ _ _
    (word_end word_bits 0 a.which a.v (bit a.next.now) (digit a.losing) _ _ _ c.loop-left-test.false c.loop-left.invariant.2)
