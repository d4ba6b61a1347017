-- The promises of the two calls at each way out.
use Rattle.std.specs.Prelude.{◌≡◌, true, false, ℕ, ◌≤◌}
use Rattle.std.proofs.Math.Path.{refl, sym}
use Rattle.std.proofs.Common.{ap, ◌∙◌, arith, take_at}
use mathlib.Core.List.{List, [], ◌∷◌, ◌++◌}
use Rattle.std.proofs.Math.ListN.{length}
use Rattle.theory.specs.Logic.Range.{tabulate}
use Rattle.theory.proofs.Logic.ListLaws.{length_tabulate, get_d_tabulate}
use Rattle.theory.specs.Games.Game.{edge_count}
use Rattle.theory.specs.Order.Order.{order, order_passes}
use Rattle.theory.specs.Plans.Plan.{Plan}
use Rattle.theory.specs.Classes.Reduction.{class_game, reduced, class_of}
use Rattle.theory.proofs.Classes.ReductionLaws.{reduced_total, class_of_reduced}
use Rattle.theory.proofs.Classes.SizeLaws.{reduced_size, reduced_edges}
use Rattle.table.specs.Table.{vertex_count, table_edges, table_length, game_of}
use Rattle.table.specs.TableWords.{edges_of, table_words}
use Rattle.table.specs.TableWordsLaws.{length_table_words, table_words_well, edges_of_lists, length_edges_of}
use Rattle.table.specs.TableLaws.{game_n, game_total, edges_listed}
use Rattle.table.specs.Answers.{Row, Answer, accepted, refused, judge, Clean, written}
use Rattle.table.specs.AnswersLaws.{judge_clean, judge_past, judge_stays, judge_accepted, length_written, get_d_written, after_clean, after_past, after_refused, clean_append}
use Rattle.table.specs.WellFormed.{WellFormed}
use Rattle.order.specs.OrderCall.{order_rows, passes_answer, order_answer, order_bytes}
use Rattle.order.specs.OrderRules.{OrderFits}
use Rattle.order.specs.OrderRulesLaws.{order_accepts}
use Rattle.order.specs.OrderWritten.{OrderDone}
use Rattle.classes.specs.Numbering.{Classed, Ordered}
use Rattle.classes.specs.ClassesCall.{class_words}
use Rattle.classes.specs.OrderedMarksLaws.{ordered_written}
use Rattle.reduction.specs.TableCall.{table_rows, table_counts, class_table, TableCall}
use Rattle.reduction.proofs.TableRulesLaws.{table_accepted}
use Rattle.reduction.specs.declared.TableCounts.{TableCounts}
use Rattle.plan_links.specs.PlanFormed.{WordsPass}
use Rattle.plan.specs.Acceptance.{plan_rows}
use Rattle.plan.specs.AcceptanceLaws.{clean_words}
use Rattle.plan.specs.NumbersLaws.{recount}
use Rattle.carry_output.specs.PlanWords.{plan_words, plan_counts}
use Rattle.carry.specs.CarryCall.{carried_to, judged_rows, carry_rows, CarryCall, carried_from_class, carry_class_rows, CarryClassCall}
use Rattle.carry_output.specs.CarryParts.{needed_by, carried_by, arrival_rows, Arrived, plan_vertices, ClassesFor, Carriable}
use Rattle.carry.specs.ReducedMemory.{ReducedHeld, reduced_rows}

-- ---- a plan that passes 11 to 16 can be carried

-- a plan that passes is well formed
plan_passed : (g : List ℕ) (player : ℕ) (plan : List ℕ) → WellFormed g → accepted [] ≡ judge (plan_rows g player plan) [] → WordsPass g player plan
unfolding plan_rows
plan_passed g player plan well e =
    let c = (judge_accepted (plan_rows g player plan) [] [] (sym e)).0 in
    clean_words g player plan well (c.0, (c.1.0, (c.1.1.0, tt)))

-- the reduced game's table is well formed
pub reduced_well : (game : List ℕ) → WellFormed game → WellFormed (class_table reduced game)
unfolding game_of
reduced_well game well =
    let G = game_of game in
    table_words_well (reduced G) (edges_of (reduced G)) (edges_of_lists (reduced G)) (omega (arith, class_of_reduced G 0 well.some))
    (omega (arith, reduced_size G, well.vertices))
    (omega (arith, length_edges_of (reduced G), reduced_edges G, edges_listed game, well.edges))
    (reduced_total G (game_total game well))

module _ (game : List ℕ) (player : ℕ) (plan : List ℕ) (well : WellFormed game) {marks : List ℕ} (ordered : Ordered (game_of game) marks) where
  pub own_can : accepted [] ≡ judge (plan_rows game player plan) [] → {classes : List ℕ}
      → Carriable false game plan classes × Ordered (game_of game) marks × (player ≤ 1)
  unfolding plan_vertices ClassesFor
  own_can e =
      let w = plan_passed game player plan well e in
      (record { well = well; formed = w.formed; classed = tt }, ordered, w.number)

  pub class_can : {classes : List ℕ} → Classed (game_of game).n (order (game_of game)) classes
      → accepted [] ≡ judge (plan_rows (class_table reduced game) player plan) []
      → Carriable true game plan classes × Ordered (game_of game) marks × (player ≤ 1)
  unfolding plan_vertices ClassesFor table_words reduced class_game
  class_can classed e =
      let w = plan_passed (class_table reduced game) player plan (reduced_well game well) e in
      (record { well = well; formed = w.formed; classed = classed }, ordered, w.number)

-- ---- the plan is on the game itself

module _ (game : List ℕ) (player : ℕ) (plan : List ℕ) (vertex : ℕ) (marks spare output : List ℕ) where
  abbrev Call : Answer → List ℕ → List ℕ → List ℕ → Type 0
  Call = CarryCall game player plan vertex marks spare output

  abbrev judged : List Row
  judged = judged_rows game player plan marks spare

  abbrev C : Plan
  C = carried_to game player plan vertex

  carry_old : (k p : ℕ) → judge judged [] ≡ refused k p → Call (refused k p) marks spare output
  unfolding carry_rows
  carry_old k p e =
      let q = judge_stays judged _ [] (plan_counts C) k p e in record {
        verdict = sym q;
        marks_after = sym (after_refused judged [] (order_bytes game) marks e);
        spare_after = sym (after_refused judged [] (order_bytes game) spare e);
        output_after = sym (after_refused (carry_rows game player plan vertex marks spare output) (plan_counts C) (plan_words C) output q);
      }

  -- a refusal by the rows of the order call
  pub carry_order : (k p : ℕ) → refused k p ≡ order_answer game marks spare → Call (refused k p) marks spare output
  unfolding passes_answer judged_rows
  carry_order k p e = carry_old k p (judge_stays (order_rows game marks spare) _ (order_passes (game_of game) ∷ []) [] k p (sym e))

  module _ (fits : OrderFits game marks spare) where
    order_clean : Clean (order_rows game marks spare)
    unfolding passes_answer
    order_clean = (judge_accepted _ _ _ (order_accepts game marks spare fits)).0

    -- a refusal of the plan
    pub carry_judged : (k p : ℕ) → refused k p ≡ judge (plan_rows game player plan) [] → Call (refused k p) marks spare output
    unfolding judged_rows
    carry_judged k p e = carry_old k p (judge_past (order_rows game marks spare) _ [] order_clean ∙ sym e)

    module _ (passed : accepted [] ≡ judge (plan_rows game player plan) []) where
      plan_clean : Clean (plan_rows game player plan)
      plan_clean = (judge_accepted _ _ _ (sym passed)).0

      all_clean : Clean judged
      unfolding judged_rows
      all_clean = clean_append (order_rows game marks spare) _ order_clean plan_clean

      module _ (passes : ℕ) (marks' spare' : List ℕ) (done : OrderDone game marks spare passes marks' spare') where
        pub carry_arrived : (answer : Answer) (output' : List ℕ)
            → Arrived (arrival_rows false game player plan vertex output) (plan_counts (carried_by false game player plan vertex))
            (plan_words (carried_by false game player plan vertex)) output answer output'
            → Call answer marks' spare' output'
        unfolding carry_rows needed_by carried_by
        carry_arrived answer output' a = record {
          verdict = a.verdict ∙ sym (judge_past judged _ (plan_counts C) all_clean);
          marks_after = done.marks_after ∙ sym (after_clean judged (order_bytes game) marks all_clean);
          spare_after = done.spare_after ∙ sym (after_clean judged (order_bytes game) spare all_clean);
          output_after = a.output_after ∙ sym (after_past judged _ (plan_words C) output all_clean);
        }

-- ---- the plan is on the reduced game

-- 11 to 16, then 33 to 35
module _ (game : List ℕ) (player : ℕ) (plan : List ℕ) (vertex : ℕ) (output : List ℕ) where
  abbrev reduced_table : List ℕ
  reduced_table = class_table reduced game

  abbrev D : Plan
  D = carried_by true game player plan vertex

  abbrev Reduced : Answer → List ℕ → Type 0
  Reduced = Arrived (reduced_rows game player plan vertex output) (table_counts reduced game ++ plan_counts D) (plan_words D) output

  pub reduced_judged : (k p : ℕ) → refused k p ≡ judge (plan_rows reduced_table player plan) [] → Reduced (refused k p) output
  reduced_judged k p e =
      let q = judge_stays (plan_rows reduced_table player plan) _ [] (table_counts reduced game ++ plan_counts D) k p (sym e) in
      record { verdict = sym q; output_after = sym (after_refused (reduced_rows game player plan vertex output) _ (plan_words D) output q) }

  module _ (passed : accepted [] ≡ judge (plan_rows reduced_table player plan) []) where
    rows_clean : Clean (plan_rows reduced_table player plan)
    rows_clean = (judge_accepted _ _ _ (sym passed)).0

    pub reduced_refused : (k p : ℕ) (output' : List ℕ)
        → Arrived (arrival_rows true game player plan vertex output) (plan_counts D) (plan_words D) output (refused k p) output'
        → Reduced (refused k p) output'
    reduced_refused k p output' a = record {
      verdict = sym (judge_past (plan_rows reduced_table player plan) _ _ rows_clean ∙ recount (arrival_rows true game player plan vertex output) (plan_counts D) _ (sym a.verdict));
      output_after = a.output_after ∙ sym (after_past (plan_rows reduced_table player plan) _ (plan_words D) output rows_clean);
    }

    pub reduced_accepted : (p l : ℕ) (output' : List ℕ)
        → Arrived (arrival_rows true game player plan vertex output) (plan_counts D) (plan_words D) output (accepted (p ∷ l ∷ [])) output'
        → (c : TableCounts) → c.classes ∷ c.vertices ∷ c.edges ∷ [] ≡ table_counts reduced game
        → Reduced (accepted (c.classes ∷ c.vertices ∷ c.edges ∷ p ∷ l ∷ [])) output'
    reduced_accepted p l output' a c e =
        let j = judge_accepted (arrival_rows true game player plan vertex output) _ _ (sym a.verdict) in record {
          verdict =
              ap (λ (xs : List ℕ). accepted (xs ++ (p ∷ l ∷ []))) e ∙ ap (λ (ys : List ℕ). accepted (table_counts reduced game ++ ys)) (sym j.1)
              ∙ sym (judge_past (plan_rows reduced_table player plan) _ _ rows_clean ∙ judge_clean _ _ j.0);
          output_after = a.output_after ∙ sym (after_past (plan_rows reduced_table player plan) _ (plan_words D) output rows_clean);
        }

-- class words that a call leaves
words_classed : (game old : List ℕ) → vertex_count game ≤ length old → Classed (game_of game).n (order (game_of game)) (written (class_words game) old)
unfolding game_of class_words class_of
words_classed game old h =
    let n = vertex_count game in
    let w = tabulate n (class_of (game_of game)) in
    let s : length w ≡ n = length_tabulate n (class_of (game_of game)) in record {
      long = omega (arith, length_written w old (omega (arith, s, h)), h);
      numbers = λ u l. get_d_written w old u 0 (omega (arith, s, l)) ∙ get_d_tabulate n (class_of (game_of game)) 0 u l;
    }

module _ {game marks spare classes reduction : List ℕ} {answer : Answer} {marks' spare' classes' reduction' : List ℕ}
    (table : TableCall reduced game marks spare classes reduction answer marks' spare' classes' reduction')
    (c : TableCounts) (accepts : answer ≡ accepted (c.classes ∷ c.vertices ∷ c.edges ∷ [])) where
  table_clean : Clean (table_rows game marks spare classes reduction)
  table_clean = (judge_accepted (table_rows game marks spare classes reduction) _ _ (sym table.verdict ∙ accepts)).0

  -- what the reduced-game call leaves
  pub class_held : ReducedHeld game marks' classes' reduction' c
  unfolding written
  class_held =
      let a = table_accepted table _ accepts in
      let fits = a.0 in
      let well = fits.classes_fit.order_fits.game in
      let G = game_of game in
      let w = class_table reduced game in
      let v : c.vertices ≡ (reduced G).n = cc a.1 in
      let e : c.edges ≡ edge_count (reduced G) = cc a.1 in
      let less : table_length c.vertices c.edges ≤ table_length (vertex_count game) (table_edges game) =
      omega (arith, v, e, reduced_size G, reduced_edges G, edges_listed game, game_n game) in
      let size : length w ≡ table_length c.vertices c.edges =
      length_table_words (reduced G) (edges_of (reduced G)) ∙ rw (length_edges_of (reduced G), v, e) refl in
      let holds = table.output_after ∙ after_clean (table_rows game marks spare classes reduction) w reduction table_clean in record {
        well = well;
        ordered = rw (table.marks_after ∙ after_clean (table_rows game marks spare classes reduction) (order_bytes game) marks table_clean) (ordered_written game marks fits.classes_fit.order_fits.marks_fit);
        classed = rw (table.classes_after ∙ after_clean (table_rows game marks spare classes reduction) (class_words game) classes table_clean) (words_classed game classes fits.classes_fit.words_fit);
        totals = a.1;
        long = rw holds (omega (arith, length_written w reduction (omega (arith, size, fits.output_fit, less))));
        table = rw holds (take_at w _ (table_length c.vertices c.edges) size);
      }

-- the call, from what the reduced-game call and the rest leave
module _ (game : List ℕ) (player : ℕ) (plan : List ℕ) (vertex : ℕ) (marks spare classes reduction output : List ℕ)
    {answer : Answer} {marks' spare' classes' reduction' : List ℕ}
    (table : TableCall reduced game marks spare classes reduction answer marks' spare' classes' reduction') where
  abbrev tabled : List Row
  tabled = table_rows game marks spare classes reduction

  abbrev E : Plan
  E = carried_from_class game player plan vertex

  pub class_refused : (k p : ℕ) → answer ≡ refused k p
      → CarryClassCall game player plan vertex marks spare classes reduction output (refused k p) marks' spare' classes' reduction' output
  unfolding carry_class_rows
  class_refused k p e =
      let q = judge_stays tabled _ (table_counts reduced game) (table_counts reduced game ++ plan_counts E) k p (sym table.verdict ∙ e) in record {
        verdict = sym q;
        marks_after = table.marks_after;
        spare_after = table.spare_after;
        classes_after = table.classes_after;
        reduction_after = table.output_after;
        output_after = sym (after_refused (carry_class_rows game player plan vertex marks spare classes reduction output) _ (plan_words E) output q);
      }

  module _ (c : TableCounts) (accepts : answer ≡ accepted (c.classes ∷ c.vertices ∷ c.edges ∷ [])) where
    clean : Clean tabled
    clean = table_clean table c accepts

    pub class_arrived : (answer₂ : Answer) (output' : List ℕ)
        → Arrived (reduced_rows game player plan vertex output) (table_counts reduced game ++ plan_counts (carried_by true game player plan vertex))
        (plan_words (carried_by true game player plan vertex)) output answer₂ output'
        → CarryClassCall game player plan vertex marks spare classes reduction output answer₂ marks' spare' classes' reduction' output'
    unfolding carry_class_rows needed_by carried_by
    class_arrived answer₂ output' a = record {
      verdict = a.verdict ∙ sym (judge_past tabled _ _ clean);
      marks_after = table.marks_after;
      spare_after = table.spare_after;
      classes_after = table.classes_after;
      reduction_after = table.output_after;
      output_after = a.output_after ∙ sym (after_past tabled _ (plan_words E) output clean);
    }
