-- What a table that the reader accepts is like. Every crate above starts from this. An edge may be listed more than once.
use Rattle.std.specs.Prelude.{◌≡◌, List, ℕ, ◌≤◌, ◌<◌, length}
use Rattle.table.specs.Limits.{vertex_limit, edge_limit}
use Rattle.table.specs.Table.{vertex_count, table_edges, owner_at, source_at, target_at, table_length}
use Rattle.table.specs.declared.FilledSizes.{FilledSizes}

pub record WellFormed (g : List ℕ) : Type 0 where
  pub some : 0 < vertex_count g
  pub vertices : vertex_count g ≤ vertex_limit
  pub edges : table_edges g ≤ edge_limit
  pub size : length g ≡ table_length (vertex_count g) (table_edges g)
  pub owners : (v : ℕ) → v < vertex_count g → owner_at g v ≤ 1
  pub sources : (j : ℕ) → j < table_edges g → source_at g j < vertex_count g
  pub targets : (j : ℕ) → j < table_edges g → target_at g j < vertex_count g
  -- every vertex has an edge out
  pub total : (v : ℕ) → v < vertex_count g → (j : ℕ) × (j < table_edges g) × (source_at g j ≡ v)

-- a well-formed table of these sizes: what `Accepted` tells a caller of `read_sizes`
pub record WellSized (g : List ℕ) (c : FilledSizes) : Type 0 where
  pub well : WellFormed g
  pub vertices : c.vertices ≡ vertex_count g
  pub edges : c.edges ≡ table_edges g
