-- Each `put` changes row a alone, and the fall is that of what is taken out with what is left, as far as it is asked for.
use Rattle.words.specs.Words.{has}
use Rattle.order_sets.specs.RemovalLaws.{row_asked}
use Rattle.order_rows.specs.Bits.{row_bits}
use Rattle.order_removal.proofs.rows.take_row.Goals as goal

pub returns : goal.returns
returns c = row_asked row_bits _ (has _) (has _) (has _) (has _) _ _ _ _ _ _ _ _ _ c.row-out.ensures c.size-pairs.ensures c.row.ensures
    c.without-left.ensures c.asked_fall.ensures
    c.put.ensures c.put-2.ensures c.put-3.ensures
