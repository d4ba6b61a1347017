-- Invariant: the classes whose lowest member is v or above have it.
use mathlib.Core.Path.{◌≡◌}
use mathlib.Core.List.{List}
use Prim.Native.Nat.{ℕ, ◌+◌, ◌-◌, ◌≤◌, ◌<◌}
use native.Mathlib.Omega.{arith}
use lib.ListN.{length, get_or}
use Rattle.theory.specs.Order.Order.{order}
use Rattle.theory.specs.Classes.Reduction.{class_number}
use Rattle.theory.proofs.Classes.QuotientLaws.{order_preorder}
use Rattle.theory.proofs.Classes.ClassLaws.{class_number_lt, class_count_le}
use Rattle.table.specs.Table.{vertex_count, game_of}
use Rattle.classes.specs.Numbering.{Classed}
use Rattle.carry_output.specs.LowestLaws.{lowest_none, lowest_more, lowest_all}
use Rattle.carry_output.proofs.seats.fill_lowest.Goals as goal

-- a vertex has its class number, and that is below n
word : (game classes : List ℕ) → Classed (game_of game).n (order (game_of game)) classes → (v : ℕ) → v < vertex_count game
    → (get_or classes v 0 ≡ class_number (vertex_count game) (order (game_of game)) v) × (get_or classes v 0 < vertex_count game)
unfolding game_of
word game classes classed v h =
    let G = game_of game in
    let number = classed.numbers v h in
    (number, omega (arith, number, class_number_lt G.n (order G) (order_preorder G) v h, class_count_le G.n (order G) (order_preorder G)))

pub loop-v-init : goal.loop-v-init
unfolding game_of
loop-v-init c = lowest_none _ _ (order_preorder (game_of c.args.game.now)) _

pub bounds-classes-v : goal.bounds-classes-v
unfolding game_of
bounds-classes-v c = let long : vertex_count c.args.game.now ≤ length c.args.classes.now = c.requires.well_formed.1.long in omega arith

pub bounds-reps-c : goal.bounds-reps-c
bounds-reps-c c = omega (arith, (word c.args.game.now _ c.requires.well_formed.1 (c.loop-v.v - 1) (omega arith)).1)

pub loop-v-preserved : goal.loop-v-preserved
unfolding game_of
loop-v-preserved c =
    let l = c.loop-v in
    let game = c.args.game.now in
    let le = order (game_of game) in
    let v : ℕ = l.v - 1 in
    let q : l.v ≡ v + 1 = omega arith in
    let h : v < vertex_count game = omega arith in
    let w = word game _ c.requires.well_formed.1 v h in
    rw (c.from-c.ensures, w.0) (lowest_more _ le (order_preorder (game_of game)) v h l.reps (omega (arith, w)) (rw q at l.invariant))

pub returns : goal.returns
unfolding game_of
returns c = let l = c.loop-v in
    let z : l.v ≡ 0 = omega arith in
    lowest_all _ _ (order_preorder (game_of c.args.game.now)) _ (omega arith) (rw z at l.invariant)
