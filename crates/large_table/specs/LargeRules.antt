-- The table of refusals of a large game in terms of logic: each row with its number, its condition and its place.
use Rattle.std.specs.Prelude.{◌≡◌, ◌≢◌, List, [], ◌∷◌, ℕ, ◌+◌, ◌*◌, ◌≤◌, ◌<◌, length, get_or}
use Rattle.table.specs.Table.{vertex_count, table_edges, table_length}
use Rattle.table.specs.Rules.{Rule, placed, first_such}

abbrev pub large_rules : List ℕ → List Rule
large_rules g =
    let n = vertex_count g in
    let m = table_edges g in
    placed 1 (length g < 2) (length g)
    ∷ placed 2 (n ≡ 0) 0
    ∷ placed 4 (length g ≢ table_length n m) (length g)
    ∷ first_such 5 (λ k. 1 < get_or g k 0) (2 + n) (2 + 2 * n) (λ k. k)
    ∷ first_such 6 (λ k. n ≤ get_or g k 0) (2 + 2 * n) (table_length n m) (λ k. k)
    ∷ []
