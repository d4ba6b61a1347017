-- The pairs with v of the numbers in the first j words of `which` are losses, and word j adds those of its bits.
use mathlib.Core.Path.{refl, ◌∙◌}
use native.Mathlib.Omega.{arith}
use Rattle.words.specs.Words.{has}
use Rattle.words.specs.WordsLaws.{has_at}
use Rattle.order_rows.specs.Bits.{row_bits, cell}
use Rattle.order_sets.specs.ReversesLaws.{column_start, column_next, column_end}
use Rattle.order_removal.proofs.reverses.lose_column.Goals as goal

pub loop-j-init : goal.loop-j-init
loop-j-init c = let a = c.args in
    (refl, refl, column_start row_bits (has _) a.v (cell a.next.now) (has a.losing.now))

pub loop-j-preserved : goal.loop-j-preserved
loop-j-preserved c = let i = c.loop-j.invariant in
    let a = c.args in
    let q = c.lose_word in (
      q.auto.next ∙ i.0,
      q.auto.losing ∙ i.1,
      column_next row_bits (has _) a.v (cell a.next.now) (has a.losing.now) _ _ _ _ _ _ (has_at _ _) i.2 q.ensures,
    )

pub returns : goal.returns
returns c = let a = c.args in
    column_end row_bits (has _) a.v (cell a.next.now) (has a.losing.now) _ _ _ (omega arith) c.loop-j.invariant.2
