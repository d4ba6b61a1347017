-- The calls that carry a plan: document 02, CR 4, with their tables of refusals. The plan is on the game itself or, in the second call, on
-- the reduced game.
use Rattle.std.specs.Prelude.{◌≡◌, List, [], ◌∷◌, ◌++◌, ℕ, Result, Ok, Err}
use Rattle.theory.specs.Order.Order.{order}
use Rattle.theory.specs.Plans.Plan.{Plan}
use Rattle.theory.specs.Classes.Reduction.{no_better, reduced}
use Rattle.theory.specs.Carry.Carry.{carried_plan, class_no_better, carried_class_plan}
use Rattle.table.specs.Table.{vertex_count, player_of, game_of}
use Rattle.table.specs.Answers.{Row, Answer, accepted, refused, judge, after}
use Rattle.order.specs.OrderCall.{order_rows, order_bytes}
use Rattle.classes.specs.ClassesCall.{class_words}
use Rattle.reduction.specs.TableCall.{table_rows, table_counts, class_table}
use Rattle.plan_links.specs.PlanTable.{vertex_at, plan_of}
use Rattle.plan.specs.Acceptance.{plan_rows}
use Rattle.carry_output.specs.PlanWords.{plan_words, plan_counts, carried_rows}
use Rattle.table.specs.declared.Refusal.{Refusal}
use Rattle.carry.specs.declared.ClassPlanCounts.{ClassPlanCounts}

-- ---- the plan is on the game itself

module _ (game : List ℕ) (player : ℕ) (plan : List ℕ) where
  -- 1 to 8, 21, 22, 11 to 16: what is judged before the order is written
  unfoldable pub judged_rows : List ℕ → List ℕ → List Row
  judged_rows marks spare = order_rows game marks spare ++ plan_rows game player plan

  abbrev pub carried_to : ℕ → Plan
  carried_to vertex = carried_plan (player_of player) (game_of game) (plan_of plan) vertex

  -- then 33 to 35
  unfoldable pub carry_rows : ℕ → List ℕ → List ℕ → List ℕ → List Row
  carry_rows vertex marks spare output =
      judged_rows marks spare
      ++ carried_rows (vertex_count game) (no_better (player_of player) (order (game_of game))) (vertex_at plan 0) vertex (carried_to vertex) output

-- the promise: the verdict, and every lent word
pub record CarryCall (game : List ℕ) (player : ℕ) (plan : List ℕ) (vertex : ℕ) (marks spare output : List ℕ) (answer : Answer)
    (marks' spare' output' : List ℕ) : Type 0 where
  pub verdict : answer ≡ judge (carry_rows game player plan vertex marks spare output) (plan_counts (carried_to game player plan vertex))
  pub marks_after : marks' ≡ after (judged_rows game player plan marks spare) (order_bytes game) marks
  pub spare_after : spare' ≡ after (judged_rows game player plan marks spare) (order_bytes game) spare
  pub output_after : output' ≡ after (carry_rows game player plan vertex marks spare output) (plan_words (carried_to game player plan vertex)) output

-- ---- the plan is on the reduced game

-- accepted with the counts of the classes, of the reduced game and of the plan
abbrev pub class_carrying_answer : Result ClassPlanCounts Refusal → Answer
class_carrying_answer (Ok c) = accepted (c.classes ∷ c.vertices ∷ c.edges ∷ c.positions ∷ c.links ∷ [])
class_carrying_answer (Err f) = refused f.number f.place

module _ (game : List ℕ) (player : ℕ) (plan : List ℕ) (vertex : ℕ) where
  abbrev pub carried_from_class : Plan
  carried_from_class = carried_class_plan (player_of player) (game_of game) (plan_of plan) vertex

  -- 1 to 8, 21 to 24, before order, classes and reduction are written; then 11 to 16 about the reduced game, and 33 to 35
  unfoldable pub carry_class_rows : List ℕ → List ℕ → List ℕ → List ℕ → List ℕ → List Row
  carry_class_rows marks spare classes reduction output =
      table_rows game marks spare classes reduction
      ++ (plan_rows (class_table reduced game) player plan
      ++ carried_rows (vertex_count game) (class_no_better (player_of player) (game_of game)) (vertex_at plan 0) vertex carried_from_class output)

pub record CarryClassCall (game : List ℕ) (player : ℕ) (plan : List ℕ) (vertex : ℕ) (marks spare classes reduction output : List ℕ) (answer : Answer)
    (marks' spare' classes' reduction' output' : List ℕ) : Type 0 where
  pub verdict : answer
      ≡ judge (carry_class_rows game player plan vertex marks spare classes reduction output)
      (table_counts reduced game ++ plan_counts (carried_from_class game player plan vertex))
  pub marks_after : marks' ≡ after (table_rows game marks spare classes reduction) (order_bytes game) marks
  pub spare_after : spare' ≡ after (table_rows game marks spare classes reduction) (order_bytes game) spare
  pub classes_after : classes' ≡ after (table_rows game marks spare classes reduction) (class_words game) classes
  pub reduction_after : reduction' ≡ after (table_rows game marks spare classes reduction) (class_table reduced game) reduction
  pub output_after : output'
      ≡ after (carry_class_rows game player plan vertex marks spare classes reduction output)
      (plan_words (carried_from_class game player plan vertex)) output
