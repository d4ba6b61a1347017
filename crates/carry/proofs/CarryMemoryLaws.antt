-- Which refusals leave lent memory as it was: "After success, after 33 to 35, and in the second call after 11 to 16, this working memory
-- holds the order and, in the second, classes and reduction".
use Rattle.std.specs.Prelude.{◌≡◌, ◌⊎◌, List, ◌++◌, ℕ, ◌≤◌}
use Rattle.std.proofs.Math.Path.{refl}
use Rattle.std.proofs.Common.{sym, ◌∙◌, inr}
use Rattle.std.proofs.Math.Logic.{inl}
use native.Mathlib.Omega.{arith}
use Rattle.theory.specs.Order.Passes.{Rel}
use Rattle.theory.specs.Plans.Plan.{Plan}
use Rattle.theory.specs.Classes.Reduction.{reduced}
use Rattle.theory.specs.Carry.Carry.{class_no_better}
use Rattle.table.specs.Table.{vertex_count, player_of, game_of}
use Rattle.table.specs.Answers.{Row, refused, Clean}
use Rattle.table.specs.AnswersLaws.{after_refused}
use Rattle.table.specs.Reading.{game_rows}
use Rattle.order.specs.OrderCall.{order_rows, order_bytes}
use Rattle.classes.specs.ClassesCall.{class_rows, class_words}
use Rattle.reduction.specs.TableCall.{table_rows, class_table}
use Rattle.plan_links.specs.PlanTable.{vertex_at}
use Rattle.plan.specs.Acceptance.{plan_rows}
use Rattle.plan.specs.NumbersLaws.{Numbers, numbers_append, game_numbers, plan_numbers, refused_first, passed_first}
use Rattle.carry_output.specs.PlanWords.{size_rows, carried_rows}
use Rattle.carry.specs.CarryCall.{judged_rows, carry_rows, CarryCall, carried_from_class, carry_class_rows, CarryClassCall}
use Rattle.carry.proofs.CarryRulesLaws.{carry_refused_output, carry_class_refused_output}

carried_numbers : (Q : ℕ → Type 0) → ((k : ℕ) → 33 ≤ k → Q k) → (n : ℕ) (K : Rel) (x y : ℕ) (C : Plan) (output : List ℕ) → Numbers Q (carried_rows n K x y C output)
unfolding carried_rows size_rows
carried_numbers Q q n K x y C output = (q 33 (omega arith), (q 34 (omega arith), (q 35 (omega arith), tt)))

-- ---- the plan is on the game itself: 33 to 35 come after the order is written

module _ {game : List ℕ} {player : ℕ} {plan : List ℕ} {vertex : ℕ} {marks spare output : List ℕ} {k p : ℕ} {marks' spare' output' : List ℕ}
    (call : CarryCall game player plan vertex marks spare output (refused k p) marks' spare' output') where
  abbrev judged : List Row
  judged = judged_rows game player plan marks spare

  early : Numbers (λ k. k ≤ 24) judged
  unfolding judged_rows order_rows
  early =
      numbers_append (λ k. k ≤ 24) (order_rows game marks spare) _
      (numbers_append (λ k. k ≤ 24) (game_rows game) _ (game_numbers (λ k. k ≤ 24) (λ k h. omega arith) _ game) (omega arith, (omega arith, tt)))
      (plan_numbers (λ k. k ≤ 24) (λ k h l. omega arith) game player plan)

  late : (K : Rel) (x : ℕ) (C : Plan) → Numbers (λ k. ¬ (k ≤ 24)) (carried_rows (vertex_count game) K x vertex C output)
  late K x C = carried_numbers (λ k. ¬ (k ≤ 24)) (λ k h l. omega arith) (vertex_count game) K x vertex C output

  pub carry_old : k ≤ 24 → (marks' ≡ marks) × (spare' ≡ spare) × (output' ≡ output)
  unfolding carry_rows
  carry_old h =
      let e = refused_first (λ k. k ≤ 24) judged _ early (late _ _ _) _ k p (sym call.verdict) h in (
        call.marks_after ∙ after_refused judged _ (order_bytes game) marks e,
        call.spare_after ∙ after_refused judged _ (order_bytes game) spare e,
        carry_refused_output call k p refl,
      )

  -- all rows before 33 are passed
  pub carry_passed : 33 ≤ k → Clean judged
  unfolding carry_rows
  carry_passed h = passed_first (λ k. k ≤ 24) judged _ early (late _ _ _) _ k p (sym call.verdict) (λ l. omega arith)

-- ---- the plan is on the reduced game: 11 to 16 and 33 to 35 come after order, classes and reduced game are written

module _ {game : List ℕ} {player : ℕ} {plan : List ℕ} {vertex : ℕ} {marks spare classes reduction output : List ℕ} {k p : ℕ}
    {marks' spare' classes' reduction' output' : List ℕ}
    (call : CarryClassCall game player plan vertex marks spare classes reduction output (refused k p) marks' spare' classes' reduction' output') where
  -- 1 to 8, 21 to 24
  abbrev pub OfTable : ℕ → Type 0
  OfTable k = (k ≤ 8) ⊎ ((21 ≤ k) × (k ≤ 24))

  abbrev tabled : List Row
  tabled = table_rows game marks spare classes reduction

  table_numbers : Numbers OfTable tabled
  unfolding table_rows class_rows
  table_numbers =
      numbers_append OfTable (class_rows game marks spare classes) _
      (numbers_append OfTable (game_rows game) _ (game_numbers OfTable (λ k h. inl h) _ game) (inr (omega arith, omega arith), (inr (omega arith, omega arith), (inr (omega arith, omega arith), tt))))
      (inr (omega arith, omega arith), tt)

  not_table : (k : ℕ) → ((11 ≤ k) × (k ≤ 16)) ⊎ (33 ≤ k) → ¬ OfTable k
  not_table k (inl h) (inl l) = omega (arith, h.0)
  not_table k (inl h) (inr l) = omega (arith, h.1, l.0)
  not_table k (inr h) (inl l) = omega arith
  not_table k (inr h) (inr l) = omega (arith, l.1)

  rest_numbers : Numbers (λ k. ¬ OfTable k)
      (plan_rows (class_table reduced game) player plan
      ++ carried_rows (vertex_count game) (class_no_better (player_of player) (game_of game)) (vertex_at plan 0) vertex (carried_from_class game player plan vertex) output)
  rest_numbers =
      numbers_append (λ k. ¬ OfTable k) (plan_rows (class_table reduced game) player plan) _
      (plan_numbers (λ k. ¬ OfTable k) (λ k h l. not_table k (inl (h, l))) (class_table reduced game) player plan)
      (carried_numbers (λ k. ¬ OfTable k) (λ k h. not_table k (inr h)) _ _ _ _ _ output)

  pub carry_class_old : OfTable k → (marks' ≡ marks) × (spare' ≡ spare) × (classes' ≡ classes) × (reduction' ≡ reduction) × (output' ≡ output)
  unfolding carry_class_rows
  carry_class_old h =
      let e = refused_first OfTable tabled _ table_numbers rest_numbers _ k p (sym call.verdict) h in (
        call.marks_after ∙ after_refused tabled _ (order_bytes game) marks e,
        call.spare_after ∙ after_refused tabled _ (order_bytes game) spare e,
        call.classes_after ∙ after_refused tabled _ (class_words game) classes e,
        call.reduction_after ∙ after_refused tabled _ (class_table reduced game) reduction e,
        carry_class_refused_output call k p refl,
      )

  -- all rows before 11 are passed
  pub carry_class_passed : ((11 ≤ k) × (k ≤ 16)) ⊎ (33 ≤ k) → Clean tabled
  unfolding carry_class_rows
  carry_class_passed h = passed_first OfTable tabled _ table_numbers rest_numbers _ k p (sym call.verdict) (not_table k h)
