-- 33 where the vertex is none of the game's or isn't in the needed order with the plan's start; otherwise 34, 35 and the words.
use mathlib.Core.Path.{◌≡◌, sym, ◌∙◌}
use native.Mathlib.Omega.{arith}
use Prim.Native.Nat.{ℕ}
use lib.ListN.{get_or, length-replicate}
use Rattle.table.specs.Table.{game_of}
use Rattle.plan_links.specs.PlanTable.{vertex_at}
use Rattle.carry_replies.specs.Replies.{Seated, needed}
use Rattle.carry_replies.specs.RepliesLaws.{needed_is}
use Rattle.carry_output.specs.CarryParts.{seat_of}
use Rattle.carry_output.specs.CarryPartsLaws.{seats_seated, arrives_beyond, arrives_not, arrives}
use Rattle.carry_output.proofs.carry_to.Goals as goal
use Rattle.carry_output.proofs.carry_to.Lts as lts
use Rattle.carry_output.proofs.carry_to.Reads as reads
use Rattle.carry_output.proofs.carry_to.Tie as tie

seated : (c : lts.After-seat_positions tie.the-claims reads.Pre reads.Post tie.handed_clauses)
    → let a = c.args in Seated a.game.now a.player a.plan.now c.seat_positions.new.seats a.marks.now
seated c =
    seats_seated c.requires.0 c.requires.1 c.requires.2 _ c.seat_positions.ensures
    (omega (arith, c.seat_positions.auto.seats, length-replicate {A = ℕ} 4096 0, c.requires.0.formed.sized.positions))

-- the seat of the start
seat : (c : lts.After-seat_positions tie.the-claims reads.Pre reads.Post tie.handed_clauses)
    → let a = c.args in
    get_or c.seat_positions.new.seats 0 0 ≡ seat_of a.by_class (game_of a.game.now) (vertex_at a.plan.now 0)
seat c = c.seat_positions.ensures.at 0 c.requires.0.formed.sized.some

-- what `no_better` told
told : (c : lts.After-no_better tie.the-claims reads.Pre reads.Post tie.handed_clauses)
    → let a = c.args in
    c.no_better.result ≡ needed a.game.now a.player (get_or c.seat_positions.new.seats 0 0) a.y
told c =
    let z = seated c.before.before in
    c.no_better.ensures
    ∙ needed_is c.args.game.now c.args.player c.args.marks.now c.requires.1 _ _ (z.inside 0 c.requires.0.formed.sized.some) c.if-n-y.false

pub returns-then-n-y : goal.returns-then-n-y
returns-then-n-y c = rw c.refused.ensures (arrives_beyond _ _ _ _ _ _ c.if-n-y.true)

pub overflow_cast-x : goal.overflow_cast-x
overflow_cast-x c = omega (arith, (seated c.before.before).inside 0 c.requires.0.formed.sized.some, c.requires.0.well.vertices)

pub no_better-requires : goal.no_better-requires
unfolding game_of
no_better-requires c = ((seated c.before.before).inside 0 c.requires.0.formed.sized.some, c.if-n-y.false, c.requires.0.well.vertices, c.requires.1.long)

pub returns-then-not-no_better : goal.returns-then-not-no_better
returns-then-not-no_better c = rw c.refused-then-not-no_better.ensures
    (arrives_not _ _ _ _ _ _ _ (seat c.before.before.before.before.before) c.if-n-y.false (sym (told c.before.before.before) ∙ c.if-not-no_better.true))

pub carry_seated-requires : goal.carry_seated-requires
carry_seated-requires c = record { seated = seated c.before.before.before.before.before.before.before; y_bound = c.if-n-y.false }

pub returns : goal.returns
returns c = arrives _ _ _ _ _ _ _ c.requires.0.well c.seat_positions.ensures c.if-n-y.false (rw (seat c.before.before.before.before.before.before.before.before.before.before) at (sym (told c.before.before.before.before.before.before.before.before) ∙ c.if-not-no_better.false)) _ _
    c.carry_seated.ensures
