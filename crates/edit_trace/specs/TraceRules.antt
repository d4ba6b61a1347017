-- A trace's refusals in terms of logic: before the first entry, and at an entry.
use Rattle.std.specs.Prelude.{◌≡◌, ◌⊎◌, List, [], ◌∷◌, ◌++◌, ℕ, ◌+◌, ◌*◌, ◌≤◌, ◌<◌, length}
use Rattle.table.specs.Limits.{edge_limit}
use Rattle.table.specs.Table.{vertex_count, table_edges, table_length, Listed}
use Rattle.table.specs.Rules.{Rule, placed, FirstRule, NoRule}
use Rattle.edit_trace.specs.Trace.{entry_limit, entry_count}
use Rattle.edit_trace.specs.Run.{toggled}

-- 40
abbrev pub trace_rules : List ℕ → List Rule
trace_rules trace =
    placed 40 (((length trace ≡ 0) ⊎ (length trace ≡ 1 + 2 * entry_count trace → ⊥)) ⊎ (entry_limit < entry_count trace)) 0 ∷ []

-- the edge is in the table
abbrev pub Present : List ℕ → ℕ × ℕ → Type 0
Present g e = (j : ℕ) × Listed g e.0 e.1 j

-- CR 7's rules of an edit that arrives exactly if absent: "37 for an end not below n"; "38 for a leaving that would take a vertex's last edge";
-- "39 for an arrival at m 4,096 or into a buffer without two more words"
abbrev pub entry_rules : List ℕ → ℕ → ℕ × ℕ → List Rule
entry_rules g size e =
    placed 37 ((vertex_count g ≤ e.0) ⊎ (vertex_count g ≤ e.1)) e.0
    ∷ placed 38 (Present g e × ((w j : ℕ) → Listed g e.0 w j → w ≡ e.1)) e.0
    ∷ placed 39 (¬ Present g e × ((edge_limit ≤ table_edges g) ⊎ (size < table_length (vertex_count g) (table_edges g) + 2))) (table_edges g)
    ∷ []

-- these entries are accepted one after another, and lead from one table to another
pub data Accepts (size : ℕ) : List ℕ → List (ℕ × ℕ) → List ℕ → Type 1 where
  no_entry : {g : List ℕ} → Accepts size g [] g
  entry : {g h : List ℕ} {e : ℕ × ℕ} {es : List (ℕ × ℕ)} → NoRule (entry_rules g size e) → Accepts size (toggled g e) es h → Accepts size g (e ∷ es) h

-- the first refused entry: those before it are accepted, and it is refused k at p on the table that they lead to
pub record Refuses (size : ℕ) (g : List ℕ) (es : List (ℕ × ℕ)) (h : List ℕ) (done k p : ℕ) : Type 1 where
  pub before : List (ℕ × ℕ)
  pub first : ℕ × ℕ
  pub behind : List (ℕ × ℕ)
  pub split : es ≡ before ++ (first ∷ behind)
  pub accepted : Accepts size g before h
  pub refused : FirstRule (entry_rules h size first) k p
  pub count : done ≡ length before
