-- Games that represent game D, and one that doesn't. The reduced game of D has 5 vertices and 6 edges.
use Rattle.std.specs.Prelude.{◌≡◌, refl, false, [], ◌∷◌}
use Rattle.theory.specs.Games.Game.{even, Game, edge_count}
use Rattle.theory.specs.Classes.Minimal.{represents, AtLeast}
use Rattle.theory.proofs.Classes.MinimalLaws.{represents_out, reduced_smallest}
use Rattle.theory.proofs.Examples.Compute.{compute}
use Rattle.theory.proofs.Examples.Examples.{list_game, game_c, game_d}

-- D itself, with 6 vertices and 8 edges
pub D_itself : AtLeast 5 6 game_d
unfolding compute game_d
D_itself = (reduced_smallest game_d).least game_d (represents_out game_d game_d refl)

-- C, whose vertex 0 stands for 0 and 5, with the edge 0 to 1 that the reduced game drops
pub D_by_C : AtLeast 5 6 (game_c even)
unfolding compute game_d game_c
D_by_C = (reduced_smallest game_d).least (game_c even) (represents_out (game_c even) game_d refl)

pub C_edges : edge_count (game_c even) ≡ 7
unfolding compute game_c
C_edges = refl

-- the reduced game with its vertices turned round, and a vertex more, which has no edge and stands for none of D's
unfoldable pub turned : Game
unfolding list_game
turned = list_game (9 ∷ 4 ∷ 1 ∷ 0 ∷ 0 ∷ 2 ∷ []) [] ((1, 1) ∷ (2, 2) ∷ (3, 1) ∷ (3, 2) ∷ (4, 2) ∷ (5, 3) ∷ [])

pub D_by_turned : AtLeast 5 6 turned
unfolding compute game_d turned
D_by_turned = (reduced_smallest game_d).least turned (represents_out turned game_d refl)

-- one edge fewer, 2 to 4 of D's classes: no longer
unfoldable pub lacking : Game
unfolding list_game
lacking = list_game (2 ∷ 0 ∷ 0 ∷ 1 ∷ 4 ∷ []) [] ((0, 2) ∷ (1, 3) ∷ (2, 3) ∷ (3, 3) ∷ (4, 4) ∷ [])

pub D_not_by_lacking : represents lacking game_d ≡ false
unfolding compute game_d lacking
D_not_by_lacking = refl
