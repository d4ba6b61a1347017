-- Memory for any accepted game, and how many vertices such a game has.
use Rattle.std.specs.Prelude.{◌≡◌, List, ℕ, ◌≤◌, length, Result, Ok}
use Rattle.table.specs.Limits.{vertex_limit, table_limit}
use Rattle.table.specs.declared.Sizes.{Sizes}
use Rattle.marks.specs.Marks.{marks_length}
use Rattle.table.specs.declared.Refusal.{Refusal}

-- enough for the largest game
pub record Enough (marks spare output classes members edges : List ℕ) : Type 0 where
  pub marks_fit : marks_length vertex_limit ≤ length marks
  pub spare_fit : marks_length vertex_limit ≤ length spare
  pub output_fit : table_limit ≤ length output
  pub classes_fit : vertex_limit ≤ length classes
  pub members_fit : vertex_limit ≤ length members
  pub edges_fit : vertex_limit ≤ length edges

-- a game that is accepted has at most n vertices
pub record AtMost (n : ℕ) (verdict : Result Sizes Refusal) : Type 0 where
  pub fits : (c : Sizes) → verdict ≡ Ok c → c.vertices ≤ n
