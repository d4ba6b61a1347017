-- Laws of the calls that carry a plan: each refuses k at p exactly as its table says, accepts exactly otherwise, and, refused, leaves the
-- output as it was.
use Rattle.std.specs.Prelude.{◌≡◌, ◌⊎◌, ◌↔◌, ℕ, ◌≤◌, ◌<◌, ltb, length}
use Rattle.std.proofs.Math.Path.{refl, sym, ap}
use Rattle.std.proofs.Common.{◌∙◌, inl, inr}
use Rattle.std.proofs.Math.Bool.{false, not, So}
use mathlib.Core.List.{List, [], ◌++◌}
use Rattle.std.proofs.Math.Decide.{dec_lt}
use native.Mathlib.Omega.{arith}
use borrow.Author.Tests.{ltb-true, ltb-false, lt-ltb, le-ltb, not-false}
use Rattle.theory.specs.Logic.Bools.{◌&◌, ◌or◌}
use Rattle.theory.proofs.Logic.BoolsLaws.{clash, So_not, and_in, and_out, not_in, not_out, or_left, or_right, or_out}
use Rattle.theory.specs.Order.Order.{order}
use Rattle.theory.specs.Order.Passes.{Rel}
use Rattle.theory.specs.Plans.Plan.{Plan}
use Rattle.theory.specs.Classes.Reduction.{no_better, reduced}
use Rattle.theory.specs.Carry.Carry.{class_no_better}
use Rattle.table.specs.Limits.{position_limit, link_limit}
use Rattle.table.specs.Table.{vertex_count, player_of, game_of}
use Rattle.table.specs.Answers.{Row, Answer, accepted, refused, Clean}
use Rattle.table.specs.AnswersLaws.{judge_clean, judge_accepted, after_refused, clean_append, clean_split}
use Rattle.table.specs.Reading.{game_rows}
use Rattle.table.specs.ReadingLaws.{well_clean}
use Rattle.table.specs.Rules.{FirstRule, none, next}
use Rattle.table.specs.RulesLaws.{renders_placed, memory_renders}
use Rattle.table.specs.Decisions.{Decides}
use Rattle.table.specs.DecisionsLaws.{rendered_decides, decides_append}
use Rattle.table.specs.WellFormed.{WellFormed}
use Rattle.order.specs.OrderCall.{order_rows, passes_answer}
use Rattle.order.specs.OrderRules.{OrderFits}
use Rattle.order.specs.OrderRulesLaws.{order_rows_render, order_accepted, order_accepts}
use Rattle.reduction.specs.TableCall.{table_rows, table_counts, class_table}
use Rattle.reduction.proofs.TableRulesLaws.{table_rows_render, table_clean, clean_table}
use Rattle.plan_links.specs.PlanTable.{vertex_at}
use Rattle.plan.specs.Acceptance.{plan_rows, plan_answer}
use Rattle.plan.specs.AcceptanceRules.{Accepts}
use Rattle.plan.specs.AcceptanceLaws.{plan_decides}
use Rattle.plan.specs.WinningLaws.{plan_accepted, plan_accepts}
use Rattle.carry_output.specs.PlanWords.{plan_words, plan_counts, size_rows, carried_rows}
use Rattle.carry.specs.CarryCall.{carried_to, judged_rows, carry_rows, CarryCall, carried_from_class, carry_class_rows, CarryClassCall}
use Rattle.carry.proofs.CarryCallLaws.{reduced_well}
use Rattle.carry.specs.CarryRules.{InOrder, TooLarge, carried_rules, Arriving, lowest_start, carry_rules, CarryFits, carry_class_rules, CarryClassFits}

-- ---- 33 to 35: the needed order K between x₀ and y is that between x and y

module _ (game : List ℕ) (player x y : ℕ) (C : Plan) (output : List ℕ) (K : Rel) (x₀ : ℕ)
    (is : K x₀ y ≡ no_better (player_of player) (order (game_of game)) x y) where
  abbrev rows : List Row
  rows = carried_rows (vertex_count game) K x₀ y C output

  unfit : So (not (ltb y (vertex_count game) & K x₀ y)) ↔ ((vertex_count game ≤ y) ⊎ (¬ InOrder game player x y))
  unfit = (
    λ t. elim (dec_lt y (vertex_count game)) [
      | yes h ↦ inr (λ o. clash (and_in (lt-ltb y (vertex_count game) h) (rw is o)) (not_out t))
      | no h ↦ inl (omega arith)
    ],
    λ u. not_in (So_not (λ t. let q = and_out {a = ltb y (vertex_count game)} {b = K x₀ y} t in go u (ltb-true y (vertex_count game) q.0) (rw is at q.1))),
  )
    where
      go : (vertex_count game ≤ y) ⊎ (¬ InOrder game player x y) → y < vertex_count game → InOrder game player x y → ⊥
      go (inl h) l o = omega arith
      go (inr n) l o = n o

  large : So (ltb position_limit (length C.vertices) or ltb link_limit (length C.links)) ↔ TooLarge C
  large = (λ t. out (or_out t), into)
    where
      out : So (ltb position_limit (length C.vertices)) ⊎ So (ltb link_limit (length C.links)) → TooLarge C
      out (inl t) = inl (ltb-true position_limit (length C.vertices) t)
      out (inr t) = inr (ltb-true link_limit (length C.links) t)

      into : TooLarge C → So (ltb position_limit (length C.vertices) or ltb link_limit (length C.links))
      into (inl h) = or_left _ (lt-ltb position_limit (length C.vertices) h)
      into (inr h) = or_right _ (lt-ltb link_limit (length C.links) h)

  carried_decides : Decides rows (carried_rules game player x y C output)
  unfolding carried_rows size_rows
  carried_decides =
      rendered_decides
      (next (renders_placed 33 y _ _ unfit) (next (renders_placed 34 0 _ _ large) (next (memory_renders 35 _ output) none)))

  clean_arriving : Clean rows → Arriving game player x y C output
  unfolding carried_rows size_rows
  clean_arriving c =
      let q = and_out (not-false (ltb y (vertex_count game) & K x₀ y) c.0) in record {
        vertex = ltb-true y (vertex_count game) q.0;
        in_order = rw is at q.1;
        positions = few (dec_lt position_limit (length C.vertices)) inl;
        links = few (dec_lt link_limit (length C.links)) inr;
        output_fit = ltb-false (length output) _ c.1.1.0;
      }
    where
      few : {k b : ℕ} → Dec (b < k) → (b < k → TooLarge C) → k ≤ b
      few (yes h) f = absurd (clash (large.1 (f h)) c.1.0)
      few (no h) f = omega arith

  arriving_clean : Arriving game player x y C output → Clean rows
  unfolding carried_rows size_rows
  arriving_clean a = (
    not_true_is,
    (So_not (λ t. small (large.0 t)), (le-ltb (length output) _ a.output_fit, tt)),
  )
    where
      not_true_is : not (ltb y (vertex_count game) & K x₀ y) ≡ false
      not_true_is = ap not (and_in (lt-ltb y (vertex_count game) a.vertex) (rw is a.in_order))

      small : TooLarge C → ⊥
      small (inl h) = omega (arith, a.positions)
      small (inr h) = omega (arith, a.links)

-- ---- the rows before them

module _ (g : List ℕ) (player : ℕ) (plan : List ℕ) (well : WellFormed g) where
  pub clean_accepts : Clean (plan_rows g player plan) → Accepts g player plan
  unfolding plan_answer
  clean_accepts c = (plan_accepted g player plan [] (judge_clean _ [] (clean_append (game_rows g) _ (well_clean g well) c))).0

  accepts_clean : Accepts g player plan → Clean (plan_rows g player plan)
  unfolding plan_answer
  accepts_clean a = (clean_split (game_rows g) _ (judge_accepted _ [] [] (plan_accepts g player plan a)).0).1

module _ (game marks spare : List ℕ) where
  clean_order : Clean (order_rows game marks spare) → OrderFits game marks spare
  unfolding passes_answer
  clean_order c = (order_accepted game marks spare _ (judge_clean _ _ c)).0

  order_clean : OrderFits game marks spare → Clean (order_rows game marks spare)
  unfolding passes_answer
  order_clean f = (judge_accepted _ _ _ (order_accepts game marks spare f)).0

-- ---- the plan is on the game itself

module _ {game : List ℕ} {player : ℕ} {plan : List ℕ} {vertex : ℕ} {marks spare output : List ℕ} {answer : Answer} {marks' spare' output' : List ℕ}
    (call : CarryCall game player plan vertex marks spare output answer marks' spare' output') where
  abbrev C : Plan
  C = carried_to game player plan vertex

  abbrev all : List Row
  all = carry_rows game player plan vertex marks spare output

  pub carry_refused : (k p : ℕ) → (answer ≡ refused k p) ↔ FirstRule (carry_rules game player plan vertex marks spare output) k p
  unfolding carry_rows judged_rows
  carry_refused k p =
      let judged =
      decides_append (rendered_decides (order_rows_render game marks spare))
      (λ c. plan_decides game player plan (clean_order game marks spare c).game) in
      let d = decides_append judged (λ c. carried_decides game player (vertex_at plan 0) vertex C output _ (vertex_at plan 0) refl) in
      let r = d.refuses (plan_counts C) k p in
      (λ e. r.0 (sym call.verdict ∙ e), λ f. call.verdict ∙ r.1 f)

  pub carry_accepted : (counts : List ℕ) → answer ≡ accepted counts → CarryFits game player plan vertex marks spare output × (counts ≡ plan_counts C)
  unfolding carry_rows judged_rows
  carry_accepted counts e =
      let a = judge_accepted all (plan_counts C) counts (sym call.verdict ∙ e) in
      let s = clean_split (judged_rows game player plan marks spare) _ a.0 in
      let o = clean_split (order_rows game marks spare) _ s.0 in
      let fits = clean_order game marks spare o.0 in (
        record {
          order_fits = fits;
          accepts = clean_accepts game player plan fits.game o.1;
          arriving = clean_arriving game player (vertex_at plan 0) vertex C output _ (vertex_at plan 0) refl s.1;
        },
        sym a.1,
      )

  pub carry_accepts : CarryFits game player plan vertex marks spare output → answer ≡ accepted (plan_counts C)
  unfolding carry_rows judged_rows
  carry_accepts f =
      call.verdict
      ∙ judge_clean all (plan_counts C)
      (clean_append (judged_rows game player plan marks spare) _
      (clean_append (order_rows game marks spare) _ (order_clean game marks spare f.order_fits) (accepts_clean game player plan f.order_fits.game f.accepts))
      (arriving_clean game player (vertex_at plan 0) vertex C output _ (vertex_at plan 0) refl f.arriving))

  pub carry_refused_output : (k p : ℕ) → answer ≡ refused k p → output' ≡ output
  carry_refused_output k p e = call.output_after ∙ after_refused all (plan_counts C) (plan_words C) output (sym call.verdict ∙ e)

-- ---- the plan is on the reduced game

module _ {game : List ℕ} {player : ℕ} {plan : List ℕ} {vertex : ℕ} {marks spare classes reduction output : List ℕ} {answer : Answer}
    {marks' spare' classes' reduction' output' : List ℕ}
    (call : CarryClassCall game player plan vertex marks spare classes reduction output answer marks' spare' classes' reduction' output') where
  abbrev D : Plan
  D = carried_from_class game player plan vertex

  abbrev counts : List ℕ
  counts = table_counts reduced game ++ plan_counts D

  abbrev total : List Row
  total = carry_class_rows game player plan vertex marks spare classes reduction output

  abbrev start : ℕ
  start = lowest_start game player plan vertex

  -- a class compares as its lowest member
  lowest : class_no_better (player_of player) (game_of game) (vertex_at plan 0) vertex
      ≡ no_better (player_of player) (order (game_of game)) (lowest_start game player plan vertex) vertex
  unfolding class_no_better
  lowest = refl

  pub carry_class_refused : (k p : ℕ)
      → (answer ≡ refused k p) ↔ FirstRule (carry_class_rules game player plan vertex marks spare classes reduction output) k p
  unfolding carry_class_rows
  carry_class_refused k p =
      let d =
      decides_append (rendered_decides (table_rows_render game marks spare classes reduction))
      (λ c.
      let well = reduced_well game (clean_table game marks spare classes reduction c).classes_fit.order_fits.game in
      decides_append (plan_decides (class_table reduced game) player plan well) (λ c. carried_decides game player start vertex D output _ (vertex_at plan 0) lowest)) in
      let r = d.refuses counts k p in
      (λ e. r.0 (sym call.verdict ∙ e), λ f. call.verdict ∙ r.1 f)

  pub carry_class_accepted : (given : List ℕ) → answer ≡ accepted given
      → CarryClassFits game player plan vertex marks spare classes reduction output × (given ≡ counts)
  unfolding carry_class_rows
  carry_class_accepted given e =
      let a = judge_accepted total counts given (sym call.verdict ∙ e) in
      let s = clean_split (table_rows game marks spare classes reduction) _ a.0 in
      let o = clean_split (plan_rows (class_table reduced game) player plan) _ s.1 in
      let fits = clean_table game marks spare classes reduction s.0 in (
        record {
          table_fits = fits;
          accepts = clean_accepts (class_table reduced game) player plan (reduced_well game fits.classes_fit.order_fits.game) o.0;
          arriving = clean_arriving game player start vertex D output _ (vertex_at plan 0) lowest o.1;
        },
        sym a.1,
      )

  pub carry_class_accepts : CarryClassFits game player plan vertex marks spare classes reduction output → answer ≡ accepted counts
  unfolding carry_class_rows
  carry_class_accepts f =
      call.verdict
      ∙ judge_clean total counts
      (clean_append (table_rows game marks spare classes reduction) _ (table_clean game marks spare classes reduction f.table_fits)
      (clean_append (plan_rows (class_table reduced game) player plan) _
      (accepts_clean (class_table reduced game) player plan (reduced_well game f.table_fits.classes_fit.order_fits.game) f.accepts)
      (arriving_clean game player start vertex D output _ (vertex_at plan 0) lowest f.arriving)))

  pub carry_class_refused_output : (k p : ℕ) → answer ≡ refused k p → output' ≡ output
  carry_class_refused_output k p e = call.output_after ∙ after_refused total counts (plan_words D) output (sym call.verdict ∙ e)
