-- Carried plans, computed: all four cases of owners, and both calls.
use Rattle.std.specs.Prelude.{◌≡◌, refl, [], ◌∷◌}
use Rattle.theory.specs.Games.Game.{even, odd, Game}
use Rattle.theory.specs.Plans.Plan.{Plan}
use Rattle.theory.specs.Carry.Carry.{carried_plan, carried_class_plan}
use Rattle.theory.proofs.Examples.Compute.{compute}
use Rattle.theory.proofs.Examples.Examples.{list_game, game_d, class_plan}

-- ---- from 0, Odd's, to 1, Even's: links before vertices would give another plan, since the first link, to 4, keeps 3 alone

unfoldable pub two_ways : Game
unfolding list_game
two_ways = list_game (0 ∷ 0 ∷ 4 ∷ 2 ∷ 2 ∷ 4 ∷ []) (odd ∷ []) ((0, 4) ∷ (0, 5) ∷ (1, 2) ∷ (1, 3) ∷ (2, 2) ∷ (3, 3) ∷ (4, 4) ∷ (5, 5) ∷ [])

pub two_ways_carried :
    carried_plan even two_ways (record { vertices = 0 ∷ 4 ∷ 5 ∷ []; links = (0, 1) ∷ (0, 2) ∷ (1, 1) ∷ (2, 2) ∷ [] }) 1
    ≡ record { vertices = 1 ∷ 2 ∷ []; links = (0, 1) ∷ (1, 1) ∷ [] }
unfolding compute two_ways
two_ways_carried = refl

-- ---- two of Odd's with all edges: both links of a position keep, and the first in the table is followed, so four positions

unfoldable pub both_ways : Game
unfolding list_game
both_ways = list_game (0 ∷ 0 ∷ []) (odd ∷ odd ∷ []) ((0, 0) ∷ (0, 1) ∷ (1, 0) ∷ (1, 1) ∷ [])

pub both_ways_carried :
    carried_plan even both_ways (record { vertices = 0 ∷ 1 ∷ []; links = (1, 0) ∷ (0, 1) ∷ (1, 1) ∷ (0, 0) ∷ [] }) 1
    ≡ record { vertices = 1 ∷ 0 ∷ 1 ∷ 0 ∷ []; links = (0, 1) ∷ (0, 2) ∷ (1, 3) ∷ (1, 0) ∷ (2, 3) ∷ (2, 0) ∷ (3, 1) ∷ (3, 2) ∷ [] }
unfolding compute both_ways
both_ways_carried = refl

-- ---- for Odd: 0 is Odd's, 1 Even's; both lead to loops of priority 1, at 2, Odd's, and at 3, Even's. The first link of 0 goes to 3.

unfoldable pub loops : Game
unfolding list_game
loops = list_game (2 ∷ 2 ∷ 1 ∷ 1 ∷ []) (odd ∷ even ∷ odd ∷ even ∷ []) ((0, 2) ∷ (0, 3) ∷ (1, 2) ∷ (1, 3) ∷ (2, 2) ∷ (3, 3) ∷ [])

unfoldable pub loops_plan : Plan
loops_plan = record { vertices = 0 ∷ 2 ∷ 3 ∷ []; links = (0, 2) ∷ (0, 1) ∷ (1, 1) ∷ (2, 2) ∷ [] }

-- to 0 itself: the lowest successor that keeps is 2
pub loops_own : carried_plan odd loops loops_plan 0 ≡ record { vertices = 0 ∷ 2 ∷ []; links = (0, 1) ∷ (1, 1) ∷ [] }
unfolding compute loops loops_plan
loops_own = refl

-- to 1, the opponent's: both successors
pub loops_opponent : carried_plan odd loops loops_plan 1 ≡ record { vertices = 1 ∷ 2 ∷ 3 ∷ []; links = (0, 1) ∷ (0, 2) ∷ (1, 1) ∷ (2, 2) ∷ [] }
unfolding compute loops loops_plan
loops_opponent = refl

-- ---- from class 0 of D's reduced game to its merged vertex 5

pub D_carried : carried_class_plan even game_d class_plan 5 ≡ record { vertices = 5 ∷ 2 ∷ 4 ∷ []; links = (0, 1) ∷ (1, 2) ∷ (2, 2) ∷ [] }
unfolding compute game_d class_plan
D_carried = refl
