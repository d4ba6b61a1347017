-- The four ways out, by the three tests.
use Rattle.plan_returns.specs.SearchLaws.{visited_out, visited_seen, visited_new}
use Rattle.plan_returns.specs.ReturnSearchLaws.{below_fails, elsewhere_fails, passes_in}
use Rattle.plan_returns.proofs.Search.visit.Goals as goal

pub returns-then-self-j : goal.returns-then-self-j
returns-then-self-j c = visited_out _ _ _ _ _ _ (below_fails _ _ _ _ _ c.if-self-j.true)

pub returns-then-self-j-2 : goal.returns-then-self-j-2
returns-then-self-j-2 c = visited_out _ _ _ _ _ _ (elsewhere_fails _ _ _ _ _ c.if-self-j-2.true)

pub returns-then-memory-j : goal.returns-then-memory-j
returns-then-memory-j c = visited_seen _ _ _ _ _ _ c.if-memory-j.true

pub returns : goal.returns
returns c = visited_new _ _ _ _ _ _ (passes_in _ _ _ _ _ c.if-self-j.false c.if-self-j-2.false) c.if-memory-j.false
