-- Each way out is a row of the order call, a row of the plan acceptor, or what is left once both are passed.
use Rattle.std.proofs.lemmas.Result.{err_from_is_err_and}
use Rattle.std.proofs.Common.{ap, ◌∙◌, arith}
use Rattle.theory.specs.Order.Order.{order_marks, order_passes}
use Rattle.table.specs.ReadingLaws.{reading_accepted}
use Rattle.marks.specs.Marks.{marks_length}
use Rattle.order.specs.OrderRules.{OrderFits}
use Rattle.order.specs.OrderCallLaws.{order_handed, order_short_marks, order_short_spare}
use Rattle.classes.specs.OrderedMarksLaws.{ordered_done}
use Rattle.carry.proofs.CarryCallLaws.{carry_order, carry_judged, own_can, carry_arrived}
use Rattle.carry.proofs.carry_plan.Goals as goal

pub returns-in_default : goal.returns-in_default
returns-in_default c = let t = c.in_default in
    rw (c.refusal_of.ensures, t.is)
    (carry_order _ _ _ _ _ _ _ _ _ (order_handed order_marks order_passes _ _ _ t.field-0 (rw t.is at c.read_sizes-reading.ensures)).verdict)

pub length_for-needed-requires : goal.length_for-needed-requires
length_for-needed-requires c = let s = reading_accepted _ _ c.in-Ok.ensures in omega (arith, s.vertices, s.well.vertices)

pub returns-then-marks-needed : goal.returns-then-marks-needed
returns-then-marks-needed c = let s = reading_accepted _ _ c.in-Ok.ensures in
    let n = c.length_for-needed.ensures ∙ ap marks_length s.vertices in
    rw (c.refused.ensures, n) (carry_order _ _ _ _ _ _ _ _ _ (order_short_marks order_marks order_passes _ _ _ s.well (rw n at c.if-marks-needed.true)).verdict)

pub returns-then-spare-needed : goal.returns-then-spare-needed
returns-then-spare-needed c = let s = reading_accepted _ _ c.in-Ok.ensures in
    let n = c.length_for-needed.ensures ∙ ap marks_length s.vertices in
    rw (c.refused-then-spare-needed.ensures, n)
    (carry_order _ _ _ _ _ _ _ _ _
    (order_short_spare order_marks order_passes _ _ _ s.well (rw n at c.if-marks-needed.false) (rw n at c.if-spare-needed.true)).verdict)

pub judge_plan-requires : goal.judge_plan-requires
judge_plan-requires c = (reading_accepted _ _ c.in-Ok.ensures).well

pub returns-in_err-judge_plan : goal.returns-in_err-judge_plan
returns-in_err-judge_plan c = let s = reading_accepted _ _ c.in-Ok.ensures in
    let n = c.length_for-needed.ensures ∙ ap marks_length s.vertices in
    let f : OrderFits c.args.game.now c.args.marks.now c.args.spare.now = record { game = s.well; marks_fit = rw n at c.if-marks-needed.false; spare_fit = rw n at c.if-spare-needed.false } in
    let p = err_from_is_err_and c.from_residual.result c.from_residual.ensures.1 in
    rw (p.1, p.2) (carry_judged _ _ _ _ _ _ _ f _ _ c.in_err-judge_plan.ensures)

pub fill_order-requires : goal.fill_order-requires
fill_order-requires c = let s = reading_accepted _ _ c.in-Ok.ensures in
    let n = c.length_for-needed.ensures ∙ ap marks_length s.vertices in
    record { well_formed = s.well; game_in_bounds = (rw n at c.if-marks-needed.false, rw n at c.if-spare-needed.false) }

pub carry_to-requires : goal.carry_to-requires
carry_to-requires c = let s = reading_accepted _ _ c.in-Ok.ensures in
    let n = c.length_for-needed.ensures ∙ ap marks_length s.vertices in
    own_can _ _ _ s.well (ordered_done (rw n at c.if-marks-needed.false) c.fill_order.ensures) c.in_ok-judge_plan.ensures

pub returns : goal.returns
returns c = let s = reading_accepted _ _ c.in-Ok.ensures in
    let n = c.length_for-needed.ensures ∙ ap marks_length s.vertices in
    let f : OrderFits c.args.game.now c.args.marks.now c.args.spare.now = record { game = s.well; marks_fit = rw n at c.if-marks-needed.false; spare_fit = rw n at c.if-spare-needed.false } in
    carry_arrived _ _ _ _ _ _ _ f c.in_ok-judge_plan.ensures _ _ _ c.fill_order.ensures _ _ c.carry_to.ensures
