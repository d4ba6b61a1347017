-- The shifted 1 has bit k alone, so the `or` sets that bit and keeps the others; without `yes` the word is as it was.
use Rattle.words.specs.WordLaws.{with_bit, with_none}
use Rattle.words.proofs.with.Goals as goal

pub returns-then-yes : goal.returns-then-yes
returns-then-yes c = λ j h. rw c.if-yes.true (with_bit _ _ j c.requires)

pub returns-else-yes : goal.returns-else-yes
returns-else-yes c = λ j h. rw c.if-yes.false (with_none _ _ j)
