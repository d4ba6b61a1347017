-- The search from u on finds what the whole search finds, since no vertex before u has the priority of v.
use mathlib.Core.Path.{◌≡◌, sym, ◌∙◌}
use native.Mathlib.Omega.{arith}
use borrow.Author.Tests.{eq-eqb, ne_eqb}
use Rattle.theory.proofs.Logic.RangeLaws.{first_step, first_hit, first_end_lem}
use Rattle.theory.specs.Order.Order.{equal_priority}
use Rattle.table.specs.Table.{game_of}
use Rattle.order_rounds.proofs.start.first_equal.Goals as goal

pub returns-then-game-u : goal.returns-then-game-u
unfolding equal_priority game_of
returns-then-game-u c = sym (c.loop-u.invariant ∙ first_hit _ _ _ c.loop-u-test.true (eq-eqb _ _ c.if-game-u.true))

pub loop-u-preserved : goal.loop-u-preserved
unfolding equal_priority game_of
loop-u-preserved c = c.loop-u.invariant ∙ first_step _ _ _ c.loop-u-test.true (ne_eqb _ _ c.if-game-u.false)

pub returns : goal.returns
returns c = let e : c.loop-u.u ≡ c.args.v = omega arith in sym (rw e at c.loop-u.invariant ∙ first_end_lem _ _ _ (omega arith))
