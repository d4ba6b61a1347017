-- Who wins in game D, by a plan for one player at a vertex and then by the theorems; and D, with its merged vertices side by side, reduced twice.
use Rattle.std.specs.Prelude.{◌≡◌, refl, ◌⊎◌, true, [], ◌∷◌}
use Rattle.std.proofs.Common.{sym, ◌∙◌, arith}
use Rattle.std.proofs.Math.Bool.{So}
use Rattle.theory.specs.Logic.Range.{tabulate}
use Rattle.theory.specs.Games.Game.{even, odd, Game, Total}
use Rattle.theory.proofs.Games.GameLaws.{total_out}
use Rattle.theory.specs.Order.Order.{order}
use Rattle.theory.specs.Plans.Plan.{Plan, Wins, Won, WonSmall}
use Rattle.theory.proofs.Winners.DeterminacyLaws.{winner, winner_is, determined, won_small, won_lost, won_decided}
use Rattle.theory.specs.Classes.Reduction.{quotient, reduced, class_of}
use Rattle.theory.proofs.Winners.SameWinner.{winner_up, winner_down, winner_quotient, winner_reduced}
use Rattle.theory.proofs.Games.AgreementLaws.{agree_edges}
use Rattle.theory.proofs.Classes.FixedPointLaws.{reduced_order, reduced_compares, reduced_antisymmetric, reduced_class, reduced_twice, quotient_class, quotient_twice}
use Rattle.theory.proofs.Plans.PlanTestLaws.{surely_wins_lem}
use Rattle.theory.proofs.Examples.Compute.{compute}
use Rattle.theory.proofs.Examples.Examples.{list_game, edges_of, game_c, game_d, won_5}

D_total : Total game_d
unfolding compute game_d
D_total = total_out game_d refl

-- ---- Even wins at 5 by the plan found there; so at the class of 5, and at 0, which 5 is below

pub D_winner_5 : winner game_d 5 ≡ even
unfolding game_d
D_winner_5 = (winner_is game_d D_total 5 (omega arith) even).0 won_5

pub D_winner_class : winner (reduced game_d) 0 ≡ even
unfolding compute game_d
D_winner_class = sym (winner_reduced game_d D_total 5 (omega arith)) ∙ D_winner_5

-- and at the class in the quotient
pub D_winner_quotient : winner (quotient game_d) 0 ≡ even
unfolding compute game_d
D_winner_quotient = sym (winner_quotient game_d D_total 5 (omega arith)) ∙ D_winner_5

pub D_winner_0 : winner game_d 0 ≡ even
unfolding compute game_d
D_winner_0 = winner_up game_d D_total 5 0 (omega arith) (omega arith) refl D_winner_5

-- by a plan of at most 6 positions and 8 links
pub D_small_5 : WonSmall even game_d 5
unfolding game_d
D_small_5 = won_small game_d D_total 5 (omega arith) even won_5

-- at 2, too, some player wins
pub D_either_2 : Won even game_d 2 ⊎ Won odd game_d 2
unfolding game_d
D_either_2 = determined game_d D_total 2 (omega arith)

-- and it is decided whether it is Even
pub D_decided_2 : Dec (Won even game_d 2)
unfolding game_d
D_decided_2 = won_decided game_d D_total 2 (omega arith) even

-- ---- Odd wins at 3, round its loop; so Even has no plan there, however long

unfoldable pub loop_plan : Plan
loop_plan = record { vertices = 3 ∷ []; links = (0, 0) ∷ [] }

pub loop_plan_wins : Wins odd game_d loop_plan 3
unfolding compute game_d loop_plan
loop_plan_wins = surely_wins_lem odd game_d loop_plan 3 refl

pub D_lost_3 : ¬ Won even game_d 3
unfolding compute game_d
D_lost_3 = (won_lost game_d D_total 3 (omega arith) even).0 (loop_plan, loop_plan_wins)

-- ---- a game of Odd's: 0 has the edge of 1 and one more, so 0 is below 1; Odd wins at 1, over 2, and so at 0

unfoldable pub choices : Game
unfolding list_game
choices = list_game (2 ∷ 2 ∷ 1 ∷ 4 ∷ []) (odd ∷ odd ∷ []) ((0, 2) ∷ (0, 3) ∷ (1, 2) ∷ (2, 2) ∷ (3, 3) ∷ [])

choices_total : Total choices
unfolding compute choices
choices_total = total_out choices refl

unfoldable pub over_two : Plan
over_two = record { vertices = 1 ∷ 2 ∷ []; links = (0, 1) ∷ (1, 1) ∷ [] }

pub choices_winner_1 : winner choices 1 ≡ odd
unfolding compute choices over_two
choices_winner_1 = (winner_is choices choices_total 1 (omega arith) odd).0 (over_two, surely_wins_lem odd choices over_two 1 refl)

pub choices_winner_0 : winner choices 0 ≡ odd
unfolding compute choices
choices_winner_0 = winner_down choices choices_total 0 1 (omega arith) (omega arith) refl choices_winner_1

-- ---- D with its merged vertices 0 and 5 side by side, as 0 and 1: class c has the lowest member c + 1 from class 1 on

unfoldable pub beside : Game
unfolding list_game
beside = list_game (2 ∷ 2 ∷ 0 ∷ 0 ∷ 1 ∷ 4 ∷ []) [] ((0, 2) ∷ (0, 3) ∷ (1, 3) ∷ (2, 4) ∷ (3, 4) ∷ (3, 5) ∷ (4, 4) ∷ (5, 5) ∷ [])

pub beside_classes : tabulate 6 (class_of beside) ≡ 0 ∷ 0 ∷ 1 ∷ 2 ∷ 3 ∷ 4 ∷ []
unfolding compute beside
beside_classes = refl

-- class 1 is below class 2, as 2 is below 3
pub beside_order : order (reduced beside) 1 2 ≡ order beside 2 3
unfolding compute beside
beside_order = reduced_order beside 1 2 (omega arith) (omega arith)

pub beside_holds : order beside 2 3 ≡ true
unfolding compute beside
beside_holds = refl

-- the classes of 2 and 3 compare as they do
pub beside_compares : order (reduced beside) (class_of beside 2) (class_of beside 3) ≡ true
unfolding compute beside
beside_compares = reduced_compares beside 2 3 (omega arith) (omega arith)

-- and so class 2 isn't below class 1
pub beside_apart : ¬ So (order (reduced beside) 2 1)
unfolding compute beside
beside_apart t = let e = reduced_antisymmetric beside 1 2 (omega arith) (omega arith) (beside_order ∙ beside_holds) t in omega (arith, e)

-- reduced again: each vertex its own class, and the same edges
pub beside_class : class_of (reduced beside) 4 ≡ 4
unfolding compute beside
beside_class = reduced_class beside 4 (omega arith)

pub beside_twice : edges_of (reduced (reduced beside)) ≡ (0, 2) ∷ (1, 3) ∷ (2, 3) ∷ (2, 4) ∷ (3, 3) ∷ (4, 4) ∷ []
unfolding compute beside edges_of
beside_twice = agree_edges (reduced_twice beside)

-- ---- the quotient of C's quotient has all edges of C, and each vertex is its own class

pub C_quotient_class : class_of (quotient (game_c even)) 2 ≡ 2
unfolding compute game_c
C_quotient_class = quotient_class (game_c even) 2 (omega arith)

pub C_quotient_twice : edges_of (quotient (quotient (game_c even))) ≡ (0, 1) ∷ (0, 2) ∷ (1, 3) ∷ (2, 3) ∷ (2, 4) ∷ (3, 3) ∷ (4, 4) ∷ []
unfolding compute game_c edges_of
C_quotient_twice = agree_edges (quotient_twice (game_c even))
