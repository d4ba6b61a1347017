-- The order call's table of refusals in terms of logic, and what an accepted call was lent.
use Rattle.std.specs.Prelude.{List, [], ◌∷◌, ◌++◌, ℕ, ◌≤◌, length}
use Rattle.table.specs.Table.{vertex_count}
use Rattle.table.specs.Rules.{Rule, memory_rule}
use Rattle.table.specs.ReadingRules.{game_rules}
use Rattle.table.specs.WellFormed.{WellFormed}
use Rattle.marks.specs.Marks.{marks_length}

-- 1 to 8, 21, 22
abbrev pub order_rules : List ℕ → List ℕ → List ℕ → List Rule
order_rules game marks spare =
    let needed = marks_length (vertex_count game) in
    game_rules game ++ (memory_rule 21 needed marks ∷ memory_rule 22 needed spare ∷ [])

pub record OrderFits (g marks spare : List ℕ) : Type 0 where
  pub game : WellFormed g
  pub marks_fit : marks_length (vertex_count g) ≤ length marks
  pub spare_fit : marks_length (vertex_count g) ≤ length spare
