-- The calls that preview an edit: change request 8. The first table is shared; the edit is made in a second lent set.
use Rattle.std.specs.Prelude.{List, ◌∷◌, ◌++◌, ℕ, length}
use Rattle.table.specs.Table.{vertex_count, table_edges, table_length, table_in}
use Rattle.table.specs.Answers.{Row, memory_row, Answer}
use Rattle.classes.specs.ClassesCall.{memory_rows}
use Rattle.edit_rules.specs.Buffer.{buffer_rows}
use Rattle.edit_rules.specs.Edges.{edit_rows}
use Rattle.edit_rules.specs.declared.Edit.{Edit}
use Rattle.edit.specs.EditCall.{EditedBy}

-- 1 to 8 of the first table, as for edits; "The length checks 21 to 23 and 39 are about that second set; a second table too short for the first
-- counts under 24, after 23."; then 37 to 39
abbrev pub preview_rows : Edit → List ℕ → ℕ → ℕ → List ℕ → List ℕ → List ℕ → List ℕ → List Row
preview_rows e game s t table marks spare classes =
    buffer_rows game
    ++ (memory_rows (vertex_count game) (length marks) (length spare) (length classes)
    ++ (memory_row 24 (table_length (vertex_count game) (table_edges game)) table ∷ edit_rows e (table_in game) (length table) s t))

-- The promise is that of an edit of the first table, made in the second, by these rows. "It changes nothing but a second lent set of table,
-- marks, spare and class words, .. all beyond its tables, marks, spare and classes untouched. After a refusal it has its old content."
abbrev pub PreviewCall : Edit → List ℕ → ℕ → ℕ → List ℕ → List ℕ → List ℕ → List ℕ → Answer → List ℕ → List ℕ → List ℕ → List ℕ → Type 0
PreviewCall e game s t table marks spare classes =
    EditedBy (preview_rows e game s t table marks spare classes) e (table_in game) s t table marks spare classes
