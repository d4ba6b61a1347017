-- The three ways out: not marked, unequal priorities, the test.
use Rattle.theory.specs.Logic.Bools.{◌&◌}
use Rattle.order_acceptor.specs.RelationCall.{direct_pair, fails}
use Rattle.order_acceptor.proofs.failing.test_fails.Goals as goal

pub returns-then-not-is_marked : goal.returns-then-not-is_marked
unfolding fails direct_pair ◌&◌
returns-then-not-is_marked c = rw (← c.is_marked.ensures, c.if-not-is_marked.true)

pub returns-then-not-same_priority : goal.returns-then-not-same_priority
unfolding fails direct_pair ◌&◌
returns-then-not-same_priority c = let m = c.is_marked in
    rw (← m.ensures, c.if-not-is_marked.false, ← c.same_priority.ensures, c.if-not-same_priority.true)

pub returns : goal.returns
unfolding fails direct_pair ◌&◌
returns c = let m = c.is_marked in
    rw (← m.ensures, c.if-not-is_marked.false, ← c.same_priority.ensures, c.if-not-same_priority.false, c.pair_passes.ensures)
