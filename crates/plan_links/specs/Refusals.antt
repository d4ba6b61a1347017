-- Refusals 12 to 14 of the plan acceptor: their conditions and places.
use Rattle.std.specs.Prelude.{Bool, not, cond, List, ℕ, ◌+◌, eqb, ltb, leb, length, get_or}
use Rattle.theory.specs.Logic.Bools.{◌or◌}
use Rattle.theory.specs.Logic.Range.{first}
use Rattle.table.specs.Limits.{position_limit, link_limit}
use Rattle.table.specs.Table.{game_of}
use Rattle.plan_links.specs.PlanTable.{position_count, link_count, vertex_at, link_source, link_target, plan_length}

-- 12: under 2 words, p or l out of limits, or length not 2 + p + 2l
unfoldable pub bad_size : List ℕ → Bool
bad_size w =
    ltb (length w) 2
    or eqb (position_count w) 0
    or ltb position_limit (position_count w)
    or ltb link_limit (link_count w)
    or not (eqb (length w) (plan_length (position_count w) (link_count w)))

-- 13: word k is a position's vertex not below n, or a link end not below p
unfoldable pub beyond : ℕ → List ℕ → ℕ → Bool
beyond n w k = leb (cond (ltb k (2 + position_count w)) n (position_count w)) (get_or w k 0)

unfoldable pub first_beyond : ℕ → List ℕ → ℕ
first_beyond n w = first (beyond n w) 2 (plan_length (position_count w) (link_count w))

-- 14: link k follows no edge
unfoldable pub strays : List ℕ → List ℕ → ℕ → Bool
strays g w k = not ((game_of g).edge (vertex_at w (link_source w k)) (vertex_at w (link_target w k)))

unfoldable pub first_stray : List ℕ → List ℕ → ℕ
first_stray g w = first (strays g w) 0 (link_count w)
