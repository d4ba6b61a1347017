-- The classes call's table of refusals in terms of logic, and what an accepted call was lent.
use Rattle.std.specs.Prelude.{List, [], ◌∷◌, ◌++◌, ℕ, ◌≤◌, length}
use Rattle.table.specs.Table.{vertex_count}
use Rattle.table.specs.Rules.{Rule, memory_rule}
use Rattle.table.specs.ReadingRules.{game_rules}
use Rattle.marks.specs.Marks.{marks_length}
use Rattle.order.specs.OrderRules.{OrderFits}

-- 21 to 23, for n vertices
abbrev pub memory_rules : ℕ → List ℕ → List ℕ → List ℕ → List Rule
memory_rules n marks spare classes = memory_rule 21 (marks_length n) marks ∷ memory_rule 22 (marks_length n) spare ∷ memory_rule 23 n classes ∷ []

-- 1 to 8, then 21 to 23
abbrev pub class_rules : List ℕ → List ℕ → List ℕ → List ℕ → List Rule
class_rules game marks spare classes = game_rules game ++ memory_rules (vertex_count game) marks spare classes

-- the game is well formed, and marks, spare and class words are long enough
pub record ClassesFit (game marks spare classes : List ℕ) : Type 0 where
  pub order_fits : OrderFits game marks spare
  pub words_fit : vertex_count game ≤ length classes
