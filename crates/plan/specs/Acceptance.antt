-- The plan acceptor's table of refusals, 11 to 16, after the reader's. The player is a number, 0 Even and 1 Odd. Conditions and places of
-- 12 to 14 are in `plan_links`, those of 16 in `plan_returns`.
use Rattle.std.specs.Prelude.{Bool, true, not, cond, List, [], ◌∷◌, ◌++◌, ℕ, eqb, ltb}
use Rattle.theory.specs.Logic.Bools.{imp}
use Rattle.theory.specs.Logic.Range.{all_below, first}
use Rattle.theory.specs.Games.Game.{own}
use Rattle.table.specs.Table.{vertex_count, player_of, game_of}
use Rattle.table.specs.Answers.{Row, row, Answer, judge}
use Rattle.table.specs.Reading.{game_rows}
use Rattle.plan_links.specs.PlanTable.{position_count, link_count, vertex_at, plan_length, any_link}
use Rattle.plan_links.specs.Refusals.{bad_size, first_beyond, first_stray}
use Rattle.plan_returns.specs.Returns.{first_return}

-- ---- 15: needed links

-- for every successor of its vertex, position i has a link to a position at it
unfoldable pub answers : List ℕ → List ℕ → ℕ → Bool
answers g w i = all_below (vertex_count g) (λ x. imp ((game_of g).edge (vertex_at w i) x) (any_link w i (λ j. eqb (vertex_at w j) x)))

-- position i lacks a needed link: at a vertex of the player's it has none, at the opponent's some successor is not answered
unfoldable pub lacks_link : List ℕ → ℕ → List ℕ → ℕ → Bool
lacks_link g player w i =
    not (cond (own (game_of g) (player_of player) (vertex_at w i)) (any_link w i (λ j. true)) (answers g w i))

unfoldable pub first_lacking_link : List ℕ → ℕ → List ℕ → ℕ
first_lacking_link g player w = first (lacks_link g player w) 0 (position_count w)

-- ---- the table

unfoldable pub plan_rows : List ℕ → ℕ → List ℕ → List Row
plan_rows g player w =
    row 11 (ltb 1 player) 0
    ∷ row 12 (bad_size w) 0
    ∷ row 13 (ltb (first_beyond (vertex_count g) w) (plan_length (position_count w) (link_count w))) (first_beyond (vertex_count g) w)
    ∷ row 14 (ltb (first_stray g w) (link_count w)) (first_stray g w)
    ∷ row 15 (ltb (first_lacking_link g player w) (position_count w)) (first_lacking_link g player w)
    ∷ row 16 (ltb (first_return g player w) (position_count w)) (first_return g player w)
    ∷ []

-- the plan acceptor's answer: accepted without counts
unfoldable pub plan_answer : List ℕ → ℕ → List ℕ → Answer
plan_answer g player w = judge (game_rows g ++ plan_rows g player w) []
