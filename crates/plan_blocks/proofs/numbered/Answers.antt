-- The two tests, one after the other.
use mathlib.Core.Path.{sym, ◌∙◌}
use Rattle.plan_blocks.specs.RefiningLaws.{numbered_elsewhere, numbered_here}
use Rattle.plan_blocks.proofs.numbered.Goals as goal

pub returns-then-word_at-block : goal.returns-then-word_at-block
returns-then-word_at-block c = sym (numbered_elsewhere _ _ _ _ _ (λ e. c.if-word_at-block.true (c.word_at.ensures ∙ e)))

pub returns : goal.returns
returns c = rw c.word_at-2.ensures (sym (numbered_here _ _ _ _ _ (sym c.word_at.ensures ∙ c.if-word_at-block.false)))
