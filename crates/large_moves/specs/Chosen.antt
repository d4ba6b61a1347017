-- The winners and the kept edges that a solution's words stand for, and what they are like where no refusal of 81 to 84 applies.
use Rattle.std.specs.Prelude.{◌≡◌, List, ℕ, ◌*◌, ◌≤◌, ◌<◌, length}
use Rattle.std.proofs.Math.Bool.{So}
use Rattle.theory.specs.Logic.Bools.{◌&◌}
use Rattle.theory.specs.Logic.Range.{any_below}
use Rattle.theory.specs.Order.Passes.{Rel}
use Rattle.theory.specs.Games.Game.{Player}
use Rattle.table.specs.Table.{vertex_count, table_edges, source_at, target_at, player_of, is_edge, Listed}
use Rattle.large_moves.specs.Moves.{winner_at, move_at, keeps_edge}

abbrev pub winner_of : List ℕ → ℕ → Player
winner_of s v = player_of (winner_at s v)

-- some listed edge from v to w is kept
unfoldable pub kept_edge : List ℕ → List ℕ → Rel
kept_edge g s v w = any_below (table_edges g) (λ j. is_edge g v w j & keeps_edge g s (vertex_count g) v j)

-- a kept edge by its number
pub record KeptAt (g s : List ℕ) (v w : ℕ) : Type 0 where
  pub at : ℕ
  pub listed : Listed g v w at
  pub keeps : So (keeps_edge g s (vertex_count g) v at)

pub record Chosen (g s : List ℕ) : Type 0 where
  pub words : length s ≡ 2 * vertex_count g
  pub winners : (v : ℕ) → v < vertex_count g → winner_at s v ≤ 1
  -- every vertex names an edge of its own
  pub move : (v : ℕ) → v < vertex_count g → move_at s (vertex_count g) v < table_edges g
  pub own : (v : ℕ) → v < vertex_count g → source_at g (move_at s (vertex_count g) v) ≡ v
  -- a kept edge leads to a vertex of the same winner
  pub stays : (j : ℕ) → j < table_edges g → So (keeps_edge g s (vertex_count g) (source_at g j) j) → winner_at s (target_at g j) ≡ winner_at s (source_at g j)
