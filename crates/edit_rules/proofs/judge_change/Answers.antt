-- Each way out is the edit's row, or its passing.
use mathlib.Core.Bool.{false}
use Rattle.edit_rules.proofs.JudgeLaws.{arrival_full, arrival_short, arrival_accepted, leaving_refused, leaving_accepted}
use Rattle.edit_rules.proofs.judge_change.Goals as goal

pub returns-then-m-ge-EDGES : goal.returns-then-m-ge-EDGES
returns-then-m-ge-EDGES c = rw (c.refused.ensures, c.in-Arrival.is) (arrival_full _ _ _ _ 0 false _ c.if-m-ge-EDGES.true)

pub returns-then-size-n : goal.returns-then-size-n
returns-then-size-n c = rw (c.refused-then-size-n.ensures, c.in-Arrival.is) (arrival_short _ _ _ _ 0 false _ c.if-size-n.true)

pub returns-then-another : goal.returns-then-another
returns-then-another c = rw c.in-Leaving.is (leaving_accepted _ _ _ _ 0 false _ c.if-another.true)

pub returns-else-size-n : goal.returns-else-size-n
returns-else-size-n c = rw c.in-Arrival.is (arrival_accepted _ _ _ _ 0 false _ c.if-m-ge-EDGES.false c.if-size-n.false)

pub returns-else-another : goal.returns-else-another
returns-else-another c = rw (c.refused-in-Leaving.ensures, c.in-Leaving.is) (leaving_refused _ _ _ _ 0 false _ c.if-another.false)
