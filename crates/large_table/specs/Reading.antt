-- The table of a large game: the words of a game table, of 32 bits each, with no limit on its sizes; `game_of` is its game. Its refusals are
-- the reader's 1, 2 and 4 to 6, without the limits. That each vertex has an edge out is left to a solution, which names one.
use Rattle.std.specs.Prelude.{◌≡◌, not, List, [], ◌∷◌, ℕ, ◌+◌, ◌*◌, ◌≤◌, ◌<◌, eqb, ltb, length}
use Rattle.table.specs.Table.{vertex_count, table_edges, owner_at, source_at, target_at, table_length}
use Rattle.table.specs.Answers.{Row, row, Answer, judge}
use Rattle.table.specs.Reading.{first_owner, first_end}
use Rattle.table.specs.declared.FilledSizes.{FilledSizes}

-- the table of refusals, row by row: number, condition, place
unfoldable pub large_rows : List ℕ → List Row
large_rows g =
    row 1 (ltb (length g) 2) (length g)
    ∷ row 2 (eqb (vertex_count g) 0) 0
    ∷ row 4 (not (eqb (length g) (table_length (vertex_count g) (table_edges g)))) (length g)
    ∷ row 5 (ltb (first_owner g) (2 + 2 * vertex_count g)) (first_owner g)
    ∷ row 6 (ltb (first_end g) (table_length (vertex_count g) (table_edges g))) (first_end g)
    ∷ []

-- the reader's answer: accepted with n and m
unfoldable pub large_answer : List ℕ → Answer
large_answer g = judge (large_rows g) (vertex_count g ∷ table_edges g ∷ [])

-- what a table that is accepted is like
pub record LargeFormed (g : List ℕ) : Type 0 where
  pub some : 0 < vertex_count g
  pub size : length g ≡ table_length (vertex_count g) (table_edges g)
  pub owners : (v : ℕ) → v < vertex_count g → owner_at g v ≤ 1
  pub sources : (j : ℕ) → j < table_edges g → source_at g j < vertex_count g
  pub targets : (j : ℕ) → j < table_edges g → target_at g j < vertex_count g

-- such a table of these sizes: what the reader's `Accepted` tells a caller
pub record LargeSized (g : List ℕ) (c : FilledSizes) : Type 0 where
  pub formed : LargeFormed g
  pub vertices : c.vertices ≡ vertex_count g
  pub edges : c.edges ≡ table_edges g
