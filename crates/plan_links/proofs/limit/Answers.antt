-- The limit by its definition.
use borrow.Author.Tests.{lt-ltb, le-ltb}
use Rattle.plan_links.proofs.limit.Goals as goal

pub returns-then-k-p : goal.returns-then-k-p
returns-then-k-p c = rw (lt-ltb _ _ c.if-k-p.true)

pub returns-else-k-p : goal.returns-else-k-p
returns-else-k-p c = rw (le-ltb _ _ c.if-k-p.false)
