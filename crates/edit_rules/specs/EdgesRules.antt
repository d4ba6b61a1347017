-- The edit's table of refusals in terms of logic, for a table that begins a buffer of some size.
use Rattle.std.specs.Prelude.{◌≡◌, ◌⊎◌, List, [], ◌∷◌, ℕ, ◌+◌, ◌≤◌, ◌<◌}
use Rattle.table.specs.Limits.{edge_limit}
use Rattle.table.specs.Table.{vertex_count, table_edges, table_length, Listed}
use Rattle.table.specs.Rules.{Rule, placed}
use Rattle.edit_rules.specs.declared.Edit.{Edit}
use Rattle.edit_rules.specs.declared.Edit.TheVariants.{Arrival, Leaving}

-- an arrival of an edge that is there, a leaving of one that isn't
unfoldable pub Misplaced : Edit → List ℕ → ℕ → ℕ → Type 0
Misplaced Arrival g s t = (j : ℕ) × Listed g s t j
Misplaced Leaving g s t = ¬ ((j : ℕ) × Listed g s t j)

-- 38 where every edge of the source leads to the target, however often it stands there; 39 at the limit, or without two more words
unfoldable pub change_rules : Edit → List ℕ → ℕ → ℕ → ℕ → List Rule
change_rules Arrival g size s t =
    placed 39 ((edge_limit ≤ table_edges g) ⊎ (size < table_length (vertex_count g) (table_edges g) + 2)) (table_edges g) ∷ []
change_rules Leaving g size s t = placed 38 ((w j : ℕ) → Listed g s w j → w ≡ t) s ∷ []

-- 37, then 38 or 39
abbrev pub edit_rules : Edit → List ℕ → ℕ → ℕ → ℕ → List Rule
edit_rules e g size s t =
    placed 37 (((vertex_count g ≤ s) ⊎ (vertex_count g ≤ t)) ⊎ Misplaced e g s t) s ∷ change_rules e g size s t
