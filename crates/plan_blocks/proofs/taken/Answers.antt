-- By the test.
use mathlib.Core.Path.{sym}
use Rattle.plan_blocks.specs.RefiningLaws.{taken_gone, taken_live}
use Rattle.plan_blocks.proofs.taken.Goals as goal

pub returns-then-block-eq-GONE : goal.returns-then-block-eq-GONE
returns-then-block-eq-GONE c = sym (taken_gone _ _ c.if-block-eq-GONE.true)

pub returns : goal.returns
returns c = sym (taken_live _ _ c.if-block-eq-GONE.false)
