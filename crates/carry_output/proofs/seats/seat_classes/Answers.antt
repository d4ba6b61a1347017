-- The lowest members of the classes are gathered by the class of each position.
use mathlib.Core.Path.{◌≡◌}
use mathlib.Core.Bool.{true}
use Prim.Native.Nat.{ℕ, ◌<◌}
use native.Mathlib.Omega.{arith}
use lib.ListN.{length, get_or, length-replicate}
use Rattle.theory.specs.Order.Order.{order}
use Rattle.table.specs.Limits.{vertex_limit}
use Rattle.table.specs.Table.{game_of}
use Rattle.classes.specs.Numbering.{Represented}
use Rattle.plan_links.specs.PlanTable.{position_count, vertex_at}
use Rattle.carry_output.specs.CarryParts.{seat_of, plan_vertices, ClassesFor}
use Rattle.carry_output.specs.CarryPartsLaws.{part_vertex, length_part, seats_gathered}
use Rattle.carry_output.proofs.seats.seat_classes.Goals as goal
use Rattle.carry_output.proofs.seats.seat_classes.Lts as lts
use Rattle.carry_output.proofs.seats.seat_classes.Reads as reads
use Rattle.carry_output.proofs.seats.seat_classes.Tie as tie

represented : (c : lts.After-fill_lowest tie.the-claims reads.Pre reads.Post tie.handed_clauses)
    → let G = game_of c.args.game.now in Represented G.n (order G) c.fill_lowest.new.reps
represented c = c.fill_lowest.ensures

-- a position's class has a lowest member
member : (c : lts.After-fill_lowest tie.the-claims reads.Pre reads.Post tie.handed_clauses) (i : ℕ) → let a = c.args in i < position_count a.plan.now
    → let r = c.fill_lowest.new.reps in
    (vertex_at a.plan.now i < length r) × (get_or r (vertex_at a.plan.now i) 0 ≡ seat_of true (game_of a.game.now) (vertex_at a.plan.now i))
unfolding plan_vertices seat_of
member c i h =
    let r = represented c in
    let k = c.requires.carriable.formed.vertices i h in
    (omega (arith, r.long, k), r.lowest (vertex_at c.args.plan.now i) k)

pub fill_lowest-requires : goal.fill_lowest-requires
unfolding ClassesFor
fill_lowest-requires c = record { well_formed = (c.requires.carriable.well, c.requires.carriable.classed); game_in_bounds = omega (arith, c.requires.carriable.well.vertices, length-replicate {A = ℕ} vertex_limit 0) }

pub gather-requires : goal.gather-requires
gather-requires c = let p = position_count c.args.plan.now in
    record { count_in_bounds = (omega (arith, c.requires.plan_in_bounds), omega (arith, c.requires.plan_in_bounds, c.requires.carriable.formed.sized.size, length_part c.args.plan.now p (omega (arith, c.requires.carriable.formed.sized.size)))); by_index = λ i h. omega (arith, part_vertex c.args.plan.now p i h, (member c.before.before.before.before.before i h).0) }

pub returns : goal.returns
returns c = seats_gathered _ _ c.fill_lowest.new.reps (λ i h. (member c.before.before.before.before.before.before.before.before i h).1) _ _ c.gather.ensures
