-- Each test of the definition in its turn.
use borrow.Author.Tests.{lt-ltb, le-ltb, eq-eqb, ne_eqb}
use Rattle.theory.specs.Logic.Bools.{◌&◌, ◌or◌}
use Rattle.large_solution.specs.Places.{is_over}
use Rattle.large_solution.proofs.tests.is_over.Goals as goal

pub returns-then-p-q : goal.returns-then-p-q
unfolding is_over ◌or◌
returns-then-p-q c = rw (lt-ltb _ _ c.if-p-q.true)

pub returns-then-p-q-2 : goal.returns-then-p-q-2
unfolding is_over ◌or◌ ◌&◌
returns-then-p-q-2 c = rw (le-ltb _ _ c.if-p-q.false, ne_eqb _ _ c.if-p-q-2.true)

pub returns : goal.returns
unfolding is_over ◌or◌ ◌&◌
returns c = rw (le-ltb _ _ c.if-p-q.false, eq-eqb _ _ c.if-p-q-2.false)
