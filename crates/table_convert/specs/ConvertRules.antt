-- The conversion's table of refusals in terms of logic, and what an accepted call was lent.
use Rattle.std.specs.Prelude.{◌≡◌, ◌≢◌, List, [], ◌∷◌, ◌++◌, ℕ, ◌+◌, ◌≤◌, ◌<◌, length, get_or}
use Rattle.table.specs.Table.{vertex_count, table_edges, priority_at, table_length}
use Rattle.table.specs.Rules.{Rule, memory_rule, first_such}
use Rattle.table.specs.ReadingRules.{game_rules}
use Rattle.table.specs.WellFormed.{WellFormed}

-- q is the highest priority
pub record Highest (g : List ℕ) (q : ℕ) : Type 0 where
  pub reached : (v : ℕ) × (v < vertex_count g) × (priority_at g v ≡ q)
  pub above : (v : ℕ) → v < vertex_count g → priority_at g v ≤ q

-- 1 to 8, then 24, 36
abbrev pub convert_rules : List ℕ → List ℕ → List Rule
convert_rules game output =
    game_rules game
    ++ (memory_rule 24 (table_length (vertex_count game) (table_edges game)) output
    ∷ first_such 36 (λ k. Highest game 65535 × (get_or game k 0 ≡ 0)) 2 (2 + vertex_count game) (λ k. k)
    ∷ [])

-- the game is well formed, the output is long enough, and no priority is 0 where the highest is 65,535
pub record ConvertFits (game output : List ℕ) : Type 0 where
  pub well : WellFormed game
  pub output_fits : table_length (vertex_count game) (table_edges game) ≤ length output
  pub words_fit : Highest game 65535 → (v : ℕ) → v < vertex_count game → priority_at game v ≢ 0
