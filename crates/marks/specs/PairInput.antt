-- What the pair test asks.
use Rattle.std.specs.Prelude.{ℕ, ◌≤◌, ◌<◌, List, length}
use Rattle.table.specs.Table.{vertex_count}
use Rattle.table.specs.WellFormed.{WellFormed}
use Rattle.index.specs.Index.{EdgeIndex}
use Rattle.marks.specs.Marks.{marks_length}

-- a pair of vertices of a well-formed table, its index, and marks for all pairs
pub record PairInput (g starts targets marks : List ℕ) (v w : ℕ) : Type 0 where
  pub game : WellFormed g
  pub index : EdgeIndex g starts targets
  pub row : v < vertex_count g
  pub column : w < vertex_count g
  pub fits : marks_length (vertex_count g) ≤ length marks
