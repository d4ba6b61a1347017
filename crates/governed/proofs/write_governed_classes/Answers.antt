-- The reader's refusal is handed on; the rest is the part that both relations share.
use Rattle.theory.specs.Order.Governed.{marks_by, relation_by}
use Rattle.table.specs.ReadingLaws.{reading_accepted}
use Rattle.classes.specs.ClassesCallLaws.{classes_handed}
use Rattle.governed.proofs.write_governed_classes.Goals as goal

pub returns-in_default : goal.returns-in_default
returns-in_default c = let t = c.in_default in
    rw (c.refusal_of.ensures, t.is) (classes_handed _ _ _ _ t.field-0 (rw t.is at c.read_sizes-reading.ensures))

pub write_numbered-requires : goal.write_numbered-requires
write_numbered-requires c = let s = reading_accepted _ _ (rw c.in-Ok.is at c.read_sizes-reading.ensures) in (s.well, s.vertices)

pub returns : goal.returns
unfolding marks_by relation_by
returns c = c.write_numbered.ensures
