-- The verdict call's table of refusals in terms of logic, and what a call that gives an answer was given.
use Rattle.std.specs.Prelude.{List, [], ◌∷◌, ◌++◌, ℕ, ◌≤◌, ◌<◌}
use Rattle.theory.specs.Classes.Reduction.{reduced}
use Rattle.table.specs.Table.{vertex_count, table_edges, table_length}
use Rattle.table.specs.Rules.{Rule, placed, memory_rule}
use Rattle.table.specs.ReadingRules.{game_rules}
use Rattle.classes.specs.ClassesRules.{memory_rules}
use Rattle.reduction.specs.TableCall.{class_table}
use Rattle.reduction.specs.TableRules.{TableFits}
use Rattle.plan.specs.AcceptanceRules.{plan_rules, Accepts}

-- 1 to 8, 33, 21 to 24
abbrev pub before_plan_rules : List ℕ → ℕ → List ℕ → List ℕ → List ℕ → List ℕ → List Rule
before_plan_rules game vertex marks spare classes reduction =
    game_rules game
    ++ ((placed 33 (vertex_count game ≤ vertex) vertex ∷ [])
    ++ (memory_rules (vertex_count game) marks spare classes ++ (memory_rule 24 (table_length (vertex_count game) (table_edges game)) reduction ∷ [])))

-- then 11 to 16 about the reduced game
abbrev pub verdict_rules : List ℕ → ℕ → ℕ → List ℕ → List ℕ → List ℕ → List ℕ → List ℕ → List Rule
verdict_rules game vertex player plan marks spare classes reduction =
    before_plan_rules game vertex marks spare classes reduction ++ plan_rules (class_table reduced game) player plan

-- the game is well formed and the memory long enough, the vertex is one of the game's, and the plan passes on the reduced game
pub record VerdictFits (game : List ℕ) (vertex player : ℕ) (plan marks spare classes reduction : List ℕ) : Type 0 where
  pub table_fits : TableFits game marks spare classes reduction
  pub vertex_in : vertex < vertex_count game
  pub accepts : Accepts (class_table reduced game) player plan

-- the numbers of the plan acceptor: 11 to 16 come after order, classes and reduction are written, all others before
abbrev pub OfPlan : ℕ → Type 0
OfPlan k = (11 ≤ k) × (k ≤ 16)
