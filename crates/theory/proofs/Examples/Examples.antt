-- Worked games: C and D of document 01, computed; a small game with a winning plan for each player; and demand 3 at a merged vertex.
use Rattle.std.specs.Prelude.{◌≡◌, refl, List, [], ◌∷◌, ℕ, length, get_or}
use Rattle.std.proofs.Math.Bool.{So}
use Rattle.std.proofs.Common.{arith}
use Rattle.theory.specs.Logic.Range.{tabulate, pairs_of}
use Rattle.theory.specs.Games.Game.{Player, even, odd, Game, edge_count}
use Rattle.theory.specs.Order.Order.{order, order_passes}
use Rattle.theory.specs.Plans.Plan.{Plan, linked, Wins, Won}
use Rattle.theory.specs.Order.Governed.{governed, governed_passes}
use Rattle.theory.specs.Classes.Reduction.{same_class, class_count, class_number, quotient, reduced, class_of}
use Rattle.theory.proofs.Carry.CarryLaws.{transfer}
use Rattle.theory.proofs.Winners.KeptWinners.{mutual_winner, reduced_winner}
use Rattle.theory.proofs.Plans.PlanTestLaws.{surely_wins_lem}
use Rattle.theory.proofs.Examples.Compute.{compute}

-- a game by its priorities, its owners and its edges
unfoldable pub list_game : List ℕ → List Player → List (ℕ × ℕ) → Game
list_game priorities owners edges = record {
  n = length priorities;
  priority = λ v. get_or priorities v 0;
  owner = λ v. get_or owners v even;
  edge = linked edges;
}

-- a game's edges, ascending
unfoldable pub edges_of : Game → List (ℕ × ℕ)
edges_of g = pairs_of g.n g.edge

-- ---- game C: all Even's; C': vertex 0 Odd's

unfoldable pub game_c : Player → Game
unfolding list_game
game_c a =
    list_game (2 ∷ 0 ∷ 0 ∷ 1 ∷ 4 ∷ []) (a ∷ []) ((0, 1) ∷ (0, 2) ∷ (1, 3) ∷ (2, 3) ∷ (2, 4) ∷ (3, 3) ∷ (4, 4) ∷ [])

pub C_passes : order_passes (game_c even) ≡ 2
unfolding compute game_c
C_passes = refl

-- 1 is below 2, not the reverse
pub C_order : pairs_of 5 (order (game_c even)) ≡ (0, 0) ∷ (1, 1) ∷ (1, 2) ∷ (2, 2) ∷ (3, 3) ∷ (4, 4) ∷ []
unfolding compute game_c
C_order = refl

-- five classes, and all edges of C
pub C_quotient : edges_of (quotient (game_c even)) ≡ (0, 1) ∷ (0, 2) ∷ (1, 3) ∷ (2, 3) ∷ (2, 4) ∷ (3, 3) ∷ (4, 4) ∷ []
unfolding compute game_c edges_of
C_quotient = refl

-- the reduced game drops 0 to 1
pub C_reduced : edges_of (reduced (game_c even)) ≡ (0, 2) ∷ (1, 3) ∷ (2, 3) ∷ (2, 4) ∷ (3, 3) ∷ (4, 4) ∷ []
unfolding compute game_c edges_of
C_reduced = refl

-- with vertex 0 Odd's it drops 0 to 2
pub C'_reduced : edges_of (reduced (game_c odd)) ≡ (0, 1) ∷ (1, 3) ∷ (2, 3) ∷ (2, 4) ∷ (3, 3) ∷ (4, 4) ∷ []
unfolding compute game_c edges_of
C'_reduced = refl

-- ---- game D: C with vertex 5, priority 2, Even's, edge to 2

unfoldable pub game_d : Game
unfolding list_game
game_d = list_game (2 ∷ 0 ∷ 0 ∷ 1 ∷ 4 ∷ 2 ∷ []) [] ((0, 1) ∷ (0, 2) ∷ (1, 3) ∷ (2, 3) ∷ (2, 4) ∷ (3, 3) ∷ (4, 4) ∷ (5, 2) ∷ [])

pub D_classes : tabulate 6 (class_of game_d) ≡ 0 ∷ 1 ∷ 2 ∷ 3 ∷ 4 ∷ 0 ∷ []
unfolding compute game_d
D_classes = refl

pub D_quotient : edge_count (quotient game_d) ≡ 6
unfolding compute game_d
D_quotient = refl

-- governed bisimulation tells 0 from 5, since no move of 5 answers that from 0 to 1: six classes, where the order has five. So it isn't the order's
-- mutual pairs, and 0 and 5 are one.
pub D_governed_classes : tabulate 6 (class_number 6 (governed game_d)) ≡ 0 ∷ 1 ∷ 2 ∷ 3 ∷ 4 ∷ 5 ∷ []
unfolding compute game_d
D_governed_classes = refl

pub D_governed_count : class_count 6 (governed game_d) ≡ 6
unfolding compute game_d
D_governed_count = refl

pub D_order_count : class_count 6 (order game_d) ≡ 5
unfolding compute game_d
D_order_count = refl

pub D_mutual : So (same_class (order game_d) 0 5)
unfolding compute game_d
D_mutual = refl

pub D_governed_passes : governed_passes game_d ≡ 3
unfolding compute game_d
D_governed_passes = refl

-- The pair and its reverse are tested under the marks before the pass: pass 1 takes (0, 1), (1, 3) and their reverses out, and pass 2 (0, 3) and its
-- reverse. With the reverse tested under what pass 1 leaves, pass 1 would take all of them out, and the count would be 2.
unfoldable pub stepped : Game
unfolding list_game
stepped = list_game (0 ∷ 0 ∷ 1 ∷ 0 ∷ []) [] ((0, 1) ∷ (1, 2) ∷ (2, 2) ∷ (3, 3) ∷ [])

pub stepped_passes : governed_passes stepped ≡ 3
unfolding compute stepped
stepped_passes = refl

-- ---- a plan for each player: vertices 0 (priority 0, Even's) and 1 (priority 1, Odd's) form a cycle; 2 (priority 1, Odd's) has a loop
-- and an edge to 0

unfoldable pub cycles : Game
unfolding list_game
cycles = list_game (0 ∷ 1 ∷ 1 ∷ []) (even ∷ odd ∷ odd ∷ []) ((0, 1) ∷ (1, 0) ∷ (2, 2) ∷ (2, 0) ∷ [])

-- round the cycle, which sees 1 as well, but 0 is lower
unfoldable pub even_plan : Plan
even_plan = record { vertices = 0 ∷ 1 ∷ []; links = (0, 1) ∷ (1, 0) ∷ [] }

unfoldable pub odd_plan : Plan
odd_plan = record { vertices = 2 ∷ []; links = (0, 0) ∷ [] }

pub even_plan_wins : Wins even cycles even_plan 0
unfolding compute cycles even_plan
even_plan_wins = surely_wins_lem even cycles even_plan 0 refl

pub odd_plan_wins : Wins odd cycles odd_plan 2
unfolding compute cycles odd_plan
odd_plan_wins = surely_wins_lem odd cycles odd_plan 2 refl

-- ---- demand 3 at vertex 5 of D, merged into class 0: Even's plan from class 0 of the reduced game gives a plan from vertex 5

unfoldable pub class_plan : Plan
class_plan = record { vertices = 0 ∷ 2 ∷ 4 ∷ []; links = (0, 1) ∷ (1, 2) ∷ (2, 2) ∷ [] }

pub class_plan_wins : Wins even (reduced game_d) class_plan 0
unfolding compute game_d class_plan
class_plan_wins = surely_wins_lem even (reduced game_d) class_plan 0 refl

unfoldable pub won_5 : Won even game_d 5
unfolding compute game_d
won_5 = (reduced_winner game_d even 5 (omega arith)).1 (class_plan, class_plan_wins)

-- the plan found: from 5 to 2 to 4, and there for ever
pub won_5_plan : won_5.0 ≡ record { vertices = 5 ∷ 2 ∷ 4 ∷ []; links = (0, 1) ∷ (1, 2) ∷ (2, 2) ∷ [] }
unfolding compute game_d class_plan won_5 reduced_winner mutual_winner transfer
won_5_plan = refl
