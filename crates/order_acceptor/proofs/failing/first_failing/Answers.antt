-- Invariants: the search from (v, 0), and from (v, w), on finds what the whole search finds.
use native.Mathlib.Omega.{arith}
use mathlib.Core.Path.{sym, ◌∙◌}
use Rattle.order_acceptor.specs.RowSearchLaws.{failing_start, failing_step, failing_hit, failing_row, failing_end}
use Rattle.std.proofs.Common.{rules}
use Rattle.order_acceptor.proofs.failing.first_failing.Goals as goal

pub rows-init : goal.rows-init
rows-init c = (search rules, failing_start _ _ _)

pub pair_fails-requires : goal.pair_fails-requires
pair_fails-requires c = let p = c.requires in
    record { game = p.well_formed; index = p.edge_index; row = c.if-v-n.false; column = omega arith; fits = p.game_in_bounds }

pub loop-w-preserved : goal.loop-w-preserved
loop-w-preserved c = c.loop-w.invariant ∙ failing_step _ _ _ _ _ c.if-v-n.false (omega arith) (rw (← c.pair_fails.ensures) c.if-pair_fails.false)

pub rows-preserved : goal.rows-preserved
rows-preserved c = (search rules, c.loop-w.invariant ∙ failing_row _ _ _ _ _ (omega arith))

pub returns-then-v-n : goal.returns-then-v-n
returns-then-v-n c = sym (c.rows.invariant.1 ∙ failing_end _ _ _ _ _ c.if-v-n.true)

pub returns-then-pair_fails : goal.returns-then-pair_fails
returns-then-pair_fails c = sym (c.loop-w.invariant ∙ failing_hit _ _ _ _ _ c.if-v-n.false (omega arith) (rw (← c.pair_fails.ensures) c.if-pair_fails.true))
