-- Edges that come and go: change request 7, on the words of a table. The rows are those of a table that begins a buffer of some size.
use Rattle.std.specs.Prelude.{Bool, not, cond, List, [], ◌∷◌, ◌++◌, ℕ, ◌+◌, ◌-◌, eqb, ltb, leb, length}
use Rattle.theory.specs.Logic.Bools.{◌&◌, ◌or◌}
use Rattle.theory.specs.Logic.Range.{tabulate}
use Rattle.table.specs.Limits.{edge_limit}
use Rattle.table.specs.Table.{vertex_count, table_edges, priority_at, owner_at, source_at, target_at, table_length, game_of}
use Rattle.table.specs.Answers.{Row, row}
use Rattle.table.specs.Reading.{lacks_edge}
use Rattle.table.specs.Listing.{sources_of, targets_of}
use Rattle.edit_rules.specs.declared.Edit.{Edit}
use Rattle.edit_rules.specs.declared.Edit.TheVariants.{Arrival, Leaving}

-- ---- a table and its edges

-- the edges of a table, in sequence, each with its source and its target
unfoldable pub edges_in : List ℕ → List (ℕ × ℕ)
edges_in g = tabulate (table_edges g) (λ j. (source_at g j, target_at g j))

-- the table with the vertices, priorities and owners of g, and with these edges
unfoldable pub with_edges : List ℕ → List (ℕ × ℕ) → List ℕ
with_edges g es =
    let n = vertex_count g in
    n ∷ length es ∷ (tabulate n (priority_at g) ++ (tabulate n (owner_at g) ++ (sources_of es ++ targets_of es)))

-- the edges other than those from s to t, in sequence
unfoldable pub others : ℕ → ℕ → List (ℕ × ℕ) → List (ℕ × ℕ)
others s t [] = []
others s t (e ∷ es) = let rest = others s t es in cond (eqb e.0 s & eqb e.1 t) rest (e ∷ rest)

-- ---- the edits

-- "An arrival adds an edge at the end of both arrays. A leaving removes every copy and keeps the others in sequence."
unfoldable pub edited_edges : Edit → ℕ → ℕ → List (ℕ × ℕ) → List (ℕ × ℕ)
edited_edges Arrival s t es = es ++ ((s, t) ∷ [])
edited_edges Leaving s t es = others s t es

-- the table after an edit
unfoldable pub edited : Edit → List ℕ → ℕ → ℕ → List ℕ
edited e g s t = with_edges g (edited_edges e s t (edges_in g))

-- "Words that a shorter table gives up become 0"
unfoldable pub edited_words : Edit → List ℕ → ℕ → ℕ → List ℕ
edited_words e g s t = let new = edited e g s t in new ++ tabulate (length g - length new) (λ i. 0)

-- ---- the table of refusals

-- an arrival of an edge that is there, a leaving of one that isn't
unfoldable pub misplaced : Edit → Bool → Bool
misplaced Arrival there = there
misplaced Leaving there = not there

-- 38 for a leaving that takes the source's last edge; 39 for an arrival at the limit, or into a buffer without two more words
unfoldable pub change_rows : Edit → List ℕ → ℕ → ℕ → ℕ → List Row
change_rows Arrival g size s t =
    row 39 (leb edge_limit (table_edges g) or ltb size (table_length (vertex_count g) (table_edges g) + 2)) (table_edges g) ∷ []
change_rows Leaving g size s t = row 38 (lacks_edge (edited Leaving g s t) s) s ∷ []

-- 37 for an end not below n, an arrival already there or a leaving not there; then 38 or 39
unfoldable pub edit_rows : Edit → List ℕ → ℕ → ℕ → ℕ → List Row
edit_rows e g size s t =
    row 37 ((leb (vertex_count g) s or leb (vertex_count g) t) or misplaced e ((game_of g).edge s t)) s ∷ change_rows e g size s t
