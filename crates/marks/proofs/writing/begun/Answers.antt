-- The two cases of the definition.
use borrow.Author.Tests.{eq-eqb, ne_eqb}
use Rattle.marks.specs.MarkWriting.{begun_byte}
use Rattle.marks.proofs.writing.begun.Goals as goal

pub returns-then-at-eq0 : goal.returns-then-at-eq0
unfolding begun_byte
returns-then-at-eq0 c = rw (eq-eqb _ 0 c.if-at-eq0.true)

pub returns-else-at-eq0 : goal.returns-else-at-eq0
unfolding begun_byte
returns-else-at-eq0 c = rw (ne_eqb _ 0 c.if-at-eq0.false)
