-- A table that is being written, for the proofs of the code. No public promise cites this.
use Rattle.std.specs.Prelude.{◌≡◌, ℕ, ◌+◌, ◌*◌, ◌<◌, ◌≤◌, List, length, slice_index}
use Rattle.table.specs.Limits.{vertex_limit, edge_limit}
use Rattle.table.specs.Table.{table_length}
use Rattle.table.specs.Answers.{written}
use Rattle.table_seed.specs.Generator.{state_after}
use Rattle.table_seed.specs.SeedTable.{seed_table}

-- n vertices of degree d are within the limits, and their table fits the buffer
pub record TableFits (n d : ℕ) (output : List ℕ) : Type 0 where
  pub some : 0 < n
  pub vertices : n ≤ vertex_limit
  pub degree : 0 < d
  pub edges : n * d ≤ edge_limit
  pub fits : table_length n (n * d) ≤ length output

-- words a to b - 1 are the final ones
abbrev pub Final : List ℕ → List ℕ → ℕ → ℕ → Type 0
Final final output a b = (i : ℕ) → a ≤ i → i < b → slice_index output i ≡ slice_index final i

-- the sizes, the priorities and owners of the first v vertices, and the first e edges are final; words beyond the table are old
pub record Progress (s n d c : ℕ) (old : List ℕ) (v e : ℕ) (output : List ℕ) : Type 0 where
  pub size : length output ≡ length old
  pub priorities : Final (written (seed_table s n d c) old) output 0 (2 + v)
  pub owners : Final (written (seed_table s n d c) old) output (2 + n) (2 + n + v)
  pub sources : Final (written (seed_table s n d c) old) output (2 + 2 * n) (2 + 2 * n + e)
  pub targets : Final (written (seed_table s n d c) old) output (2 + 2 * n + n * d) (2 + 2 * n + n * d + e)
  pub beyond : Final (written (seed_table s n d c) old) output (table_length n (n * d)) (length old)

-- the same, once k draws are made
pub record Underway (s n d c : ℕ) (old : List ℕ) (v e k state : ℕ) (output : List ℕ) : Type 0 where
  pub words : Progress s n d c old v e output
  pub drawn : state ≡ state_after s k

-- From any seed: if the table was underway before the edges of v, it is so after the first i of them.
abbrev pub EdgesDrawn : ℕ → ℕ → ℕ → ℕ → ℕ → List ℕ → ℕ → List ℕ → Type 0
EdgesDrawn n d v i state output state' output' =
    (s c : ℕ) (old : List ℕ) → Underway s n d c old (v + 1) (v * d) (v * (2 + d) + 2) state output
    → Underway s n d c old (v + 1) (v * d + i) (v * (2 + d) + (2 + i)) state' output'

-- The same of vertex v.
abbrev pub VertexDrawn : ℕ → ℕ → ℕ → ℕ → ℕ → List ℕ → ℕ → List ℕ → Type 0
VertexDrawn n d c v state output state' output' =
    (s : ℕ) (old : List ℕ) → Underway s n d c old v (v * d) (v * (2 + d)) state output
    → Underway s n d c old (v + 1) ((v + 1) * d) ((v + 1) * (2 + d)) state' output'
