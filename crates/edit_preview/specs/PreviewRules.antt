-- The table of refusals of the calls that preview an edit, in terms of logic.
use Rattle.std.specs.Prelude.{List, ◌∷◌, ◌++◌, ℕ, length}
use Rattle.table.specs.Table.{vertex_count, table_edges, table_length, table_in}
use Rattle.table.specs.Rules.{Rule, memory_rule}
use Rattle.classes.specs.ClassesRules.{memory_rules}
use Rattle.edit_rules.specs.Buffer.{buffer_rules}
use Rattle.edit_rules.specs.EdgesRules.{edit_rules}
use Rattle.edit_rules.specs.declared.Edit.{Edit}

-- 1 to 8 of the first table, where 4 means "shorter"; 21 to 24 of the second set; 37 to 39
abbrev pub preview_rules : Edit → List ℕ → ℕ → ℕ → List ℕ → List ℕ → List ℕ → List ℕ → List Rule
preview_rules e game s t table marks spare classes =
    buffer_rules game
    ++ (memory_rules (vertex_count game) marks spare classes
    ++ (memory_rule 24 (table_length (vertex_count game) (table_edges game)) table ∷ edit_rules e (table_in game) (length table) s t))
