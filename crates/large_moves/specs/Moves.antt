-- The words of a solution, 2n for a game of n vertices: the winner at each vertex, 0 Even and 1 Odd; then for each vertex the number of an
-- edge of its own, its move where the winner owns it. An edge is kept if plays may take it while the winners make these moves.
use Rattle.std.specs.Prelude.{◌≡◌, Bool, not, List, [], ◌∷◌, ℕ, ◌+◌, ◌*◌, eqb, ltb, leb, length, get_or}
use Rattle.theory.specs.Logic.Bools.{◌&◌, ◌or◌}
use Rattle.theory.specs.Logic.Range.{first}
use Rattle.table.specs.Table.{vertex_count, table_edges}
use Rattle.table.specs.Flags.{at_least}
use Rattle.table.specs.Answers.{Row, row}
use Rattle.large_table.specs.Words.{owner_of, source_of, target_of, TableOf}

-- ---- words, for a game of n vertices and m edges

abbrev pub winner_at : List ℕ → ℕ → ℕ
winner_at s v = get_or s v 0

abbrev pub move_at : List ℕ → ℕ → ℕ → ℕ
move_at s n v = get_or s (n + v) 0

-- ---- tests

-- the move of v isn't an edge of v
unfoldable pub move_strays : List ℕ → List ℕ → ℕ → ℕ → ℕ → Bool
move_strays g s n m v = leb m (move_at s n v) or not (eqb (source_of g n (move_at s n v)) v)

-- edge j of v is kept: any edge where the winner doesn't own v, the move of v where it does
unfoldable pub keeps_edge : List ℕ → List ℕ → ℕ → ℕ → ℕ → Bool
keeps_edge g s n v j = not (eqb (winner_at s v) (owner_of g n v)) or eqb (move_at s n v) j

-- edge j is kept and leads to a vertex of the other winner
unfoldable pub edge_leaves : List ℕ → List ℕ → ℕ → ℕ → ℕ → Bool
edge_leaves g s n m j = not (eqb (winner_at s (target_of g n m j)) (winner_at s (source_of g n j))) & keeps_edge g s n (source_of g n j) j

-- ---- the table of refusals

unfoldable pub first_winner : List ℕ → List ℕ → ℕ
first_winner g s = first (at_least s 2) 0 (vertex_count g)

unfoldable pub first_stray : List ℕ → List ℕ → ℕ
first_stray g s = first (move_strays g s (vertex_count g) (table_edges g)) 0 (vertex_count g)

unfoldable pub first_leaving : List ℕ → List ℕ → ℕ
first_leaving g s = first (edge_leaves g s (vertex_count g) (table_edges g)) 0 (table_edges g)

unfoldable pub move_rows : List ℕ → List ℕ → List Row
move_rows g s =
    row 81 (not (eqb (length s) (2 * vertex_count g))) (length s)
    ∷ row 82 (ltb (first_winner g s) (vertex_count g)) (first_winner g s)
    ∷ row 83 (ltb (first_stray g s) (vertex_count g)) (first_stray g s)
    ∷ row 84 (ltb (first_leaving g s) (table_edges g)) (first_leaving g s)
    ∷ []

-- ---- what the tests assume: the words are there

pub record Lengths (g s : List ℕ) (n m : ℕ) : Type 0 where
  pub game : TableOf g n m
  pub solution : length s ≡ 2 * n
