-- The table of refusals of the calls that edit a table, in terms of logic.
use Rattle.std.specs.Prelude.{List, ◌++◌, ℕ, length}
use Rattle.table.specs.Table.{vertex_count, table_in}
use Rattle.table.specs.Rules.{Rule}
use Rattle.classes.specs.ClassesRules.{memory_rules}
use Rattle.edit_rules.specs.Buffer.{buffer_rules}
use Rattle.edit_rules.specs.EdgesRules.{edit_rules}
use Rattle.edit_rules.specs.declared.Edit.{Edit}

-- 1 to 8, where 4 means "shorter"; 21 to 23; 37 to 39
abbrev pub call_rules : Edit → List ℕ → ℕ → ℕ → List ℕ → List ℕ → List ℕ → List Rule
call_rules e buffer s t marks spare classes =
    buffer_rules buffer ++ (memory_rules (vertex_count buffer) marks spare classes ++ edit_rules e (table_in buffer) (length buffer) s t)
