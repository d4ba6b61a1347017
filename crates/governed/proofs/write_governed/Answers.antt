-- The reader's refusal is handed on; the rest is the part that both relations share.
use Rattle.theory.specs.Order.Governed.{marks_by, passes_by}
use Rattle.table.specs.ReadingLaws.{reading_accepted}
use Rattle.order.specs.OrderCallLaws.{order_handed}
use Rattle.governed.proofs.write_governed.Goals as goal

pub returns-in_default : goal.returns-in_default
returns-in_default c = let t = c.in_default in
    rw (c.refusal_of.ensures, t.is) (order_handed _ _ _ _ _ t.field-0 (rw t.is at c.read_sizes-reading.ensures))

pub write_relation-requires : goal.write_relation-requires
write_relation-requires c = let s = reading_accepted _ _ (rw c.in-Ok.is at c.read_sizes-reading.ensures) in (s.well, s.vertices)

pub returns : goal.returns
unfolding marks_by passes_by
returns c = c.write_relation.ensures
