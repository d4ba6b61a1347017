-- The two tests, one after the other.
use mathlib.Core.Path.{sym, ◌∙◌}
use Rattle.plan_blocks.specs.RefiningLaws.{leaves_lowest, leaves_links}
use Rattle.plan_blocks.proofs.Links.leaves.Goals as goal

pub returns-then-lowest : goal.returns-then-lowest
returns-then-lowest c = sym (leaves_lowest _ _ _ _ _ _ _ (sym c.lowest.ensures ∙ c.if-lowest.true))

pub returns : goal.returns
returns c = rw c.leads_to.ensures (sym (leaves_links _ _ _ _ _ _ _ (sym c.lowest.ensures ∙ c.if-lowest.false)))
