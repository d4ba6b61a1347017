-- The rest of the search equals the whole.
use native.Mathlib.Omega.{arith}
use mathlib.Core.Path.{refl, sym, ◌∙◌}
use Rattle.theory.proofs.Logic.RangeLaws.{first_step, first_hit, first_end_lem}
use Rattle.plan_links.specs.Refusals.{strays, first_stray}
use Rattle.plan_links.proofs.first_straying.Goals as goal

pub loop-k-init : goal.loop-k-init
unfolding first_stray
loop-k-init c = refl

pub returns-then-strays : goal.returns-then-strays
returns-then-strays c = sym (c.loop-k.invariant ∙ first_hit _ _ _ c.loop-k-test.true (sym c.strays.ensures ∙ c.if-strays.true))

pub loop-k-preserved : goal.loop-k-preserved
loop-k-preserved c = c.loop-k.invariant ∙ first_step _ _ _ c.loop-k-test.true (sym c.strays.ensures ∙ c.if-strays.false)

pub returns : goal.returns
returns c = omega (arith, c.loop-k.invariant, first_end_lem (strays c.args.game.now c.args.plan.now) _ _ c.loop-k-test.false)
