-- Sizes, edge ends and flags: what the searches of the reader assume and promise of each other. No public promise cites these.
use Rattle.std.specs.Prelude.{◌≡◌, Bool, not, List, ℕ, ◌+◌, ◌*◌, ◌≤◌, ◌<◌, eqb, leb, length, get_or}
use Rattle.theory.specs.Logic.Bools.{◌or◌, bit}
use Rattle.theory.specs.Logic.Range.{any_below, count}
use Rattle.words.specs.Words.{has}
use Rattle.table.specs.Limits.{vertex_limit, edge_limit, pair_limit, pair_words}
use Rattle.table.specs.Table.{vertex_count, table_edges, source_at, target_at, table_length, game_of}

-- word k is limit or more
abbrev pub at_least : List ℕ → ℕ → ℕ → Bool
at_least g limit k = leb limit (get_or g k 0)

-- n and m are the table's sizes, and it has the length that they ask
pub record Sized (g : List ℕ) (n m : ℕ) : Type 0 where
  pub vertices : n ≡ vertex_count g
  pub edges : m ≡ table_edges g
  pub few_vertices : n ≤ vertex_limit
  pub few_edges : m ≤ edge_limit
  pub size : length g ≡ table_length n m

pub record EndsInside (g : List ℕ) : Type 0 where
  pub sources : (j : ℕ) → j < table_edges g → source_at g j < vertex_count g
  pub targets : (j : ℕ) → j < table_edges g → target_at g j < vertex_count g

-- an edge as one number
unfoldable pub edge_number : List ℕ → ℕ → ℕ
edge_number g j = source_at g j * vertex_count g + target_at g j

-- every word is x
pub record Filled (x : ℕ) (words : List ℕ) : Type 0 where
  pub at : (i : ℕ) → i < length words → get_or words i 0 ≡ x

-- ---- vertices

-- word v is 0 if one of the edges below j leaves v, and 1 otherwise
pub record Cleared (g : List ℕ) (j : ℕ) (lacking : List ℕ) : Type 0 where
  pub at : (v : ℕ) → v < length lacking → get_or lacking v 0 ≡ bit (not (any_below j (λ k. eqb (source_at g k) v)))

-- ---- pairs of vertices

-- flag i is set now, and the others are as before
abbrev pub Raised : List ℕ → List ℕ → ℕ → Type 0
Raised old new i = (y : ℕ) → has new y ≡ (has old y or eqb i y)

-- one of the edges below j has the number i
unfoldable pub numbered : List ℕ → ℕ → ℕ → Bool
numbered g j i = any_below j (λ k. eqb (edge_number g k) i)

-- the flags are those of the edges below j
pub record Flagged (g : List ℕ) (j : ℕ) (flags : List ℕ) : Type 0 where
  pub at : (i : ℕ) → i < pair_limit → has flags i ≡ numbered g j i

-- how many pairs of vertices are flagged after the edges below j: the different ones among them
unfoldable pub different_below : List ℕ → ℕ → ℕ
different_below g j = count (vertex_count g * vertex_count g) (numbered g j)

-- the pair (v, x) of n vertices is flagged
unfoldable pub flagged : ℕ → List ℕ → ℕ → ℕ → Bool
flagged n flags v x = has flags (v * n + x)

-- a flag for each pair of vertices: whether it is an edge
pub record EdgeFlags (g flags : List ℕ) : Type 0 where
  pub long : pair_words ≤ length flags
  pub edge : (v x : ℕ) → v < vertex_count g → x < vertex_count g → flagged (vertex_count g) flags v x ≡ (game_of g).edge v x
