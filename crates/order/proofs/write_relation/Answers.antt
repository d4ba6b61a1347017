-- Each way out is a row of the call's table of refusals, or what the passes left.
use native.Mathlib.Omega.{arith}
use mathlib.Core.Path.{◌≡◌, ap, ◌∙◌}
use mathlib.Core.List.{List}
use Prim.Native.Nat.{ℕ}
use Rattle.table.specs.Table.{vertex_count}
use Rattle.marks.specs.Marks.{marks_length}
use Rattle.order.specs.OrderCallLaws.{order_short_marks, order_short_spare, order_done}
use Rattle.order.proofs.write_relation.Goals as goal

-- the length that both buffers need
needed : (k n : ℕ) (game : List ℕ) → k ≡ marks_length n → n ≡ vertex_count game → k ≡ marks_length (vertex_count game)
needed k n game e h = e ∙ ap marks_length h

pub length_for-needed-requires : goal.length_for-needed-requires
length_for-needed-requires c = let p = c.requires in omega (arith, p.1, p.0.vertices)

pub returns-then-marks-needed : goal.returns-then-marks-needed
returns-then-marks-needed c = let e = needed _ _ c.args.game.now c.length_for-needed.ensures c.requires.1 in
    rw (c.refused.ensures, e) (order_short_marks _ _ _ _ _ c.requires.0 (rw e at c.if-marks-needed.true))

pub returns-then-spare-needed : goal.returns-then-spare-needed
returns-then-spare-needed c = let e = needed _ _ c.args.game.now c.length_for-needed.ensures c.requires.1 in
    rw (c.refused-then-spare-needed.ensures, e) (order_short_spare _ _ _ _ _ c.requires.0 (rw e at c.if-marks-needed.false) (rw e at c.if-spare-needed.true))

pub fill_relation-passes-requires : goal.fill_relation-passes-requires
fill_relation-passes-requires c = let e = needed _ _ c.args.game.now c.length_for-needed.ensures c.requires.1 in
    record { well_formed = c.requires.0; game_in_bounds = (rw e at c.if-marks-needed.false, rw e at c.if-spare-needed.false) }

pub returns : goal.returns
returns c = let e = needed _ _ c.args.game.now c.length_for-needed.ensures c.requires.1 in
    order_done _ _ _ _ _ c.requires.0 (rw e at c.if-marks-needed.false) (rw e at c.if-spare-needed.false) _ _ _ c.fill_relation-passes.ensures
