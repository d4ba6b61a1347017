-- The game table: document 01, "The game table", and the game that its words stand for.
use Rattle.std.specs.Prelude.{◌≡◌, Bool, cond, List, ℕ, ◌+◌, ◌*◌, ◌<◌, eqb, get_or, take}
use Rattle.theory.specs.Logic.Bools.{◌&◌}
use Rattle.theory.specs.Logic.Range.{any_below}
use Rattle.theory.specs.Games.Game.{Player, even, odd, Game}

-- sizes first: n vertices, m edges
abbrev pub vertex_count : List ℕ → ℕ
vertex_count g = get_or g 0 0

abbrev pub table_edges : List ℕ → ℕ
table_edges g = get_or g 1 0

-- the pairs of vertices
abbrev pub pair_count : List ℕ → ℕ
pair_count g = vertex_count g * vertex_count g

-- then two parallel arrays of n words: priorities, owners
abbrev pub priority_at : List ℕ → ℕ → ℕ
priority_at g v = get_or g (2 + v) 0

abbrev pub owner_at : List ℕ → ℕ → ℕ
owner_at g v = get_or g (2 + vertex_count g + v) 0

-- then two parallel arrays of m words: sources, targets
abbrev pub source_at : List ℕ → ℕ → ℕ
source_at g j = get_or g (2 + 2 * vertex_count g + j) 0

abbrev pub target_at : List ℕ → ℕ → ℕ
target_at g j = get_or g (2 + 2 * vertex_count g + table_edges g + j) 0

-- how many words a table of n vertices and m edges has
abbrev pub table_length : ℕ → ℕ → ℕ
table_length n m = 2 + 2 * n + 2 * m

-- the table that begins a buffer, as its sizes tell
abbrev pub table_in : List ℕ → List ℕ
table_in buffer = take (table_length (vertex_count buffer) (table_edges buffer)) buffer

-- 0 Even, 1 Odd
unfoldable pub player_of : ℕ → Player
player_of w = cond (eqb w 0) even odd

-- edge j leads from v to w
unfoldable pub is_edge : List ℕ → ℕ → ℕ → ℕ → Bool
is_edge g v w j = eqb (source_at g j) v & eqb (target_at g j) w

-- the same as a fact, with edge j in the table
pub record Listed (g : List ℕ) (v w j : ℕ) : Type 0 where
  pub inside : j < table_edges g
  pub source : source_at g j ≡ v
  pub target : target_at g j ≡ w

-- the game of a table: an edge wherever the table lists one
unfoldable pub game_of : List ℕ → Game
game_of g = record {
  n = vertex_count g;
  priority = priority_at g;
  owner = λ v. player_of (owner_at g v);
  edge = λ v w. any_below (table_edges g) (is_edge g v w);
}
