-- Each way out is row 40, or its passing.
use Rattle.edit_trace.proofs.TraceLaws.{no_words, other_length, too_many, trace_accepted}
use Rattle.edit_trace.proofs.judge_trace.Goals as goal

pub returns-then-len-eq0 : goal.returns-then-len-eq0
returns-then-len-eq0 c = rw c.refused.ensures (no_words _ c.if-len-eq0.true)

pub returns-then-len-count : goal.returns-then-len-count
returns-then-len-count c = rw c.refused-then-len-count.ensures (other_length _ c.if-len-count.true)

pub returns-then-count-gt-ENTRIES : goal.returns-then-count-gt-ENTRIES
returns-then-count-gt-ENTRIES c = rw c.refused-then-count-gt-ENTRIES.ensures (too_many _ c.if-count-gt-ENTRIES.true)

pub returns : goal.returns
returns c = trace_accepted _ c.if-len-count.false c.if-count-gt-ENTRIES.false
