-- The table of refusals of the calls that write a table, in terms of logic, and what an accepted call was lent.
use Rattle.std.specs.Prelude.{List, [], ◌∷◌, ◌++◌, ℕ, ◌≤◌, length}
use Rattle.table.specs.Table.{vertex_count, table_edges, table_length}
use Rattle.table.specs.Rules.{Rule, memory_rule}
use Rattle.classes.specs.ClassesRules.{class_rules, ClassesFit}

-- the rules of the classes call, and 24, which goes by the input's sizes
abbrev pub table_rules : List ℕ → List ℕ → List ℕ → List ℕ → List ℕ → List Rule
table_rules game marks spare classes output =
    class_rules game marks spare classes ++ (memory_rule 24 (table_length (vertex_count game) (table_edges game)) output ∷ [])

-- what the classes call needs, and an output that is long enough
pub record TableFits (game marks spare classes output : List ℕ) : Type 0 where
  pub classes_fit : ClassesFit game marks spare classes
  pub output_fit : table_length (vertex_count game) (table_edges game) ≤ length output
