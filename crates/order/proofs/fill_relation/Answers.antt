-- One buffer is filled, and as many bytes as a relation's marks take are copied into the other.
use Rattle.order.specs.OrderWrittenLaws.{copy_done}
use Rattle.order.proofs.fill_relation.Goals as goal

pub returns : goal.returns
returns c = let e = c.length_for.ensures in
    copy_done c.args.mirror c.args.game.now _ _ _ _ _ c.fill_marks-passes.ensures (rw e at c.copy_marks.ensures)
