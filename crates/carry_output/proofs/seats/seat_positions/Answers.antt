-- By class, or a copy of the plan's own vertices.
use mathlib.Core.Path.{sym, subst}
use mathlib.Core.Bool.{Bool}
use native.Mathlib.Omega.{arith}
use Rattle.plan_links.specs.PlanTable.{position_count}
use Rattle.carry_output.specs.CarryParts.{Seats, Carriable}
use Rattle.carry_output.specs.CarryPartsLaws.{length_part, seats_copied}
use Rattle.carry_output.proofs.seats.seat_positions.Goals as goal

pub seat_classes-requires : goal.seat_classes-requires
seat_classes-requires c = record { carriable = subst (λ (b : Bool). Carriable b c.args.game.now c.args.plan.now c.args.classes.now) c.if-by_class.true c.requires.carriable; plan_in_bounds = c.requires.plan_in_bounds }

pub returns-then-by_class : goal.returns-then-by_class
returns-then-by_class c = subst (λ (b : Bool). Seats b c.args.game.now c.args.plan.now c.seat_classes.new.seats) (sym c.if-by_class.true) c.seat_classes.ensures

pub copy-requires : goal.copy-requires
copy-requires c = let p = position_count c.args.plan.now in
    let z = c.requires.carriable.formed.sized.size in
    (omega (arith, c.requires.plan_in_bounds), omega (arith, length_part c.args.plan.now p (omega (arith, z))))

pub returns : goal.returns
returns c = subst (λ (b : Bool). Seats b c.args.game.now c.args.plan.now c.copy.new.words) (sym c.if-by_class.false) (seats_copied _ _ _ _ c.copy.ensures)
