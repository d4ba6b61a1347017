-- The rest of the search equals the whole.
use native.Mathlib.Omega.{arith}
use mathlib.Core.Path.{sym, ◌∙◌}
use borrow.Author.Tests.{le-leb, lt-leb}
use Rattle.theory.proofs.Logic.RangeLaws.{first_step, first_hit, first_end_lem}
use Rattle.plan_links.specs.Refusals.{beyond, first_beyond}
use Rattle.plan_links.proofs.first_beyond.Goals as goal

pub returns-then-limit-from : goal.returns-then-limit-from
unfolding first_beyond beyond
returns-then-limit-from c = sym (rw (← c.requires.size) (c.loop-k.invariant ∙ first_hit _ _ _ c.loop-k-test.true (le-leb _ _ (rw (c.limit.ensures, c.from.ensures) at c.if-limit-from.true))))

pub loop-k-preserved : goal.loop-k-preserved
unfolding beyond
loop-k-preserved c = c.loop-k.invariant ∙ first_step _ _ _ c.loop-k-test.true (lt-leb _ _ (rw (c.limit.ensures, c.from.ensures) at c.if-limit-from.false))

pub returns : goal.returns
unfolding first_beyond
returns c = rw (← c.requires.size) (omega (arith, c.loop-k.invariant, first_end_lem (beyond c.args.n c.args.plan.now) _ _ c.loop-k-test.false))
