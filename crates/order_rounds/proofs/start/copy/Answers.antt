-- Vertices of equal priority differ in priority from the same vertices, so they lose the same, with the same fall.
use Rattle.order_sets.specs.RoundsLaws.{parted_copy}
use Rattle.words.specs.Words.{has}
use Rattle.order_rows.specs.Bits.{row_bits}
use Rattle.order_rounds.proofs.start.copy.Goals as goal

pub returns : goal.returns
returns c = λ G t s.
    parted_copy row_bits G _ _ _ _ (has _) (has _) (has _) _ _ _ s c.put.ensures c.put-2.ensures c.put-3.ensures _ c.requires.u_lt_v.0 t c.row.ensures c.row-2.ensures c.row-3.ensures
