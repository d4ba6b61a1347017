-- The words of a table by its sizes, n vertices and m edges, as code reads them that has taken the sizes out once.
use Rattle.std.specs.Prelude.{◌≡◌, List, ℕ, ◌+◌, ◌*◌, ◌<◌, length, get_or}
use Rattle.table.specs.Table.{table_length}

abbrev pub owner_of : List ℕ → ℕ → ℕ → ℕ
owner_of g n v = get_or g (2 + n + v) 0

abbrev pub source_of : List ℕ → ℕ → ℕ → ℕ
source_of g n j = get_or g (2 + 2 * n + j) 0

abbrev pub target_of : List ℕ → ℕ → ℕ → ℕ → ℕ
target_of g n m j = get_or g (2 + 2 * n + m + j) 0

-- the words are there, and the ends of edges are vertices
pub record TableOf (g : List ℕ) (n m : ℕ) : Type 0 where
  pub size : length g ≡ table_length n m
  pub sources : (j : ℕ) → j < m → source_of g n j < n
  pub targets : (j : ℕ) → j < m → target_of g n m j < n
