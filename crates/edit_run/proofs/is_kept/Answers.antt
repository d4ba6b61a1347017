-- A case for each way out.
use borrow.Author.Tests.{eq-eqb, ne_eqb}
use Rattle.theory.specs.Logic.Bools.{◌&◌}
use Rattle.edit_run.proofs.is_kept.Goals as goal

pub returns-then-copies-eq0 : goal.returns-then-copies-eq0
unfolding ◌&◌
returns-then-copies-eq0 c = rw (eq-eqb _ 0 c.if-copies-eq0.true)

pub returns-else-copies-eq0 : goal.returns-else-copies-eq0
unfolding ◌&◌
returns-else-copies-eq0 c = rw (ne_eqb _ 0 c.if-copies-eq0.false)
