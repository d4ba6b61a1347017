-- The reader's refusal is handed on; the rest is the part that both acceptors share.
use Rattle.table.specs.ReadingLaws.{reading_accepted}
use Rattle.order_acceptor.specs.RelationCall.{pair_by}
use Rattle.order_acceptor.specs.RelationCallLaws.{relation_handed}
use Rattle.order_acceptor.proofs.accept_relation.Goals as goal

pub returns-in_default : goal.returns-in_default
returns-in_default c = let t = c.in_default in
    rw (c.refusal_of.ensures, t.is) (relation_handed _ _ _ t.field-0 (rw t.is at c.read_sizes-reading.ensures))

pub judge_marks-requires : goal.judge_marks-requires
judge_marks-requires c = let s = reading_accepted _ _ (rw c.in-Ok.is at c.read_sizes-reading.ensures) in (s.well, s.vertices)

pub returns : goal.returns
unfolding pair_by
returns c = c.judge_marks.ensures
