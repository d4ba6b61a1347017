-- A case for each branch.
use borrow.Author.Tests.{le-leb, lt-leb}
use Rattle.edit_links.proofs.entry_or.Goals as goal

pub returns-then-m-x : goal.returns-then-m-x
returns-then-m-x c = rw (le-leb _ _ c.if-m-x.true)

pub returns-else-m-x : goal.returns-else-m-x
returns-else-m-x c = rw (lt-leb _ _ c.if-m-x.false)
