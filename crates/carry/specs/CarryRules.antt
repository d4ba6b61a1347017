-- The tables of refusals of the calls that carry a plan in terms of logic, and what an accepted call was given.
use Rattle.std.specs.Prelude.{◌⊎◌, List, [], ◌∷◌, ◌++◌, ℕ, ◌≤◌, ◌<◌, length}
use Rattle.std.proofs.Math.Bool.{So}
use Rattle.theory.specs.Order.Order.{order}
use Rattle.theory.specs.Plans.Plan.{Plan}
use Rattle.theory.specs.Classes.Reduction.{representative, no_better, reduced}
use Rattle.table.specs.Limits.{position_limit, link_limit}
use Rattle.table.specs.Table.{vertex_count, player_of, game_of}
use Rattle.table.specs.Rules.{Rule, placed, memory_rule}
use Rattle.order.specs.OrderRules.{order_rules, OrderFits}
use Rattle.reduction.specs.TableCall.{class_table}
use Rattle.reduction.specs.TableRules.{table_rules, TableFits}
use Rattle.plan_links.specs.PlanTable.{vertex_at, plan_length}
use Rattle.plan.specs.AcceptanceRules.{plan_rules, Accepts}
use Rattle.carry.specs.CarryCall.{carried_to, carried_from_class}

-- "For Even the plan's start must be below the vertex, for Odd the vertex must be below the start"
abbrev pub InOrder : List ℕ → ℕ → ℕ → ℕ → Type 0
InOrder game player x y = So (no_better (player_of player) (order (game_of game)) x y)

-- more than 4,096 positions or 16,384 links
abbrev pub TooLarge : Plan → Type 0
TooLarge C = (position_limit < length C.vertices) ⊎ (link_limit < length C.links)

-- 33 to 35, for a plan C that is carried from x to y
abbrev pub carried_rules : List ℕ → ℕ → ℕ → ℕ → Plan → List ℕ → List Rule
carried_rules game player x y C output =
    placed 33 ((vertex_count game ≤ y) ⊎ (¬ InOrder game player x y)) y
    ∷ placed 34 (TooLarge C) 0
    ∷ memory_rule 35 (plan_length (length C.vertices) (length C.links)) output
    ∷ []

-- what they leave
pub record Arriving (game : List ℕ) (player x y : ℕ) (C : Plan) (output : List ℕ) : Type 0 where
  pub vertex : y < vertex_count game
  pub in_order : InOrder game player x y
  pub positions : length C.vertices ≤ position_limit
  pub links : length C.links ≤ link_limit
  pub output_fit : plan_length (length C.vertices) (length C.links) ≤ length output

module _ (game : List ℕ) (player : ℕ) (plan : List ℕ) (vertex : ℕ) where
  -- the lowest member of the class of the plan's start
  abbrev pub lowest_start : ℕ
  lowest_start = representative (game_of game).n (order (game_of game)) (vertex_at plan 0)

  -- ---- the plan is on the game itself: 1 to 8, 21, 22, 11 to 16, 33 to 35

  abbrev pub carry_rules : List ℕ → List ℕ → List ℕ → List Rule
  carry_rules marks spare output =
      (order_rules game marks spare ++ plan_rules game player plan)
      ++ carried_rules game player (vertex_at plan 0) vertex (carried_to game player plan vertex) output

  pub record CarryFits (marks spare output : List ℕ) : Type 0 where
    pub order_fits : OrderFits game marks spare
    pub accepts : Accepts game player plan
    pub arriving : Arriving game player (vertex_at plan 0) vertex (carried_to game player plan vertex) output

  -- ---- the plan is on the reduced game: 1 to 8, 21 to 24, 11 to 16 about the reduced game, 33 to 35

  abbrev pub carry_class_rules : List ℕ → List ℕ → List ℕ → List ℕ → List ℕ → List Rule
  carry_class_rules marks spare classes reduction output =
      table_rules game marks spare classes reduction
      ++ (plan_rules (class_table reduced game) player plan
      ++ carried_rules game player lowest_start vertex (carried_from_class game player plan vertex) output)

  pub record CarryClassFits (marks spare classes reduction output : List ℕ) : Type 0 where
    pub table_fits : TableFits game marks spare classes reduction
    pub accepts : Accepts (class_table reduced game) player plan
    pub arriving : Arriving game player lowest_start vertex (carried_from_class game player plan vertex) output
