-- The reader's table of refusals in terms of logic: document 01's rows 1 to 6 and 8, each with its number, its condition and its place.
use Rattle.std.specs.Prelude.{◌≡◌, ◌⊎◌, ◌≢◌, List, [], ◌∷◌, ℕ, ◌+◌, ◌*◌, ◌≤◌, ◌<◌, length, get_or}
use Rattle.table.specs.Limits.{vertex_limit, edge_limit}
use Rattle.table.specs.Table.{vertex_count, table_edges, source_at, table_length}
use Rattle.table.specs.Rules.{Rule, placed, first_such}

-- no edge leaves v
abbrev pub Lacks : List ℕ → ℕ → Type 0
Lacks g v = (j : ℕ) → j < table_edges g → source_at g j ≢ v

-- row 4 over what its test says of the length and the length that the sizes ask
abbrev pub game_rules_by : (ℕ → ℕ → Type 0) → List ℕ → List Rule
game_rules_by Unfit g =
    let n = vertex_count g in
    let m = table_edges g in
    placed 1 (length g < 2) (length g)
    ∷ placed 2 ((n ≡ 0) ⊎ (vertex_limit < n)) 0
    ∷ placed 3 (edge_limit < m) 1
    ∷ placed 4 (Unfit (length g) (table_length n m)) (length g)
    ∷ first_such 5 (λ k. 1 < get_or g k 0) (2 + n) (2 + 2 * n) (λ k. k)
    ∷ first_such 6 (λ k. n ≤ get_or g k 0) (2 + 2 * n) (table_length n m) (λ k. k)
    ∷ first_such 8 (Lacks g) 0 n (λ v. v)
    ∷ []

abbrev pub game_rules : List ℕ → List Rule
game_rules g = game_rules_by (λ size needed. size ≢ needed) g
