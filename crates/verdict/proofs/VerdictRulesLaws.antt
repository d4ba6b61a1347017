-- Laws of the verdict call: it refuses k at p exactly as its table says, gives an answer exactly otherwise, and leaves memory old after 1 to 8,
-- 33 and 21 to 24 alone.
use Rattle.std.specs.Prelude.{◌≡◌, refl, ◌↔◌, ℕ, ◌<◌}
use Rattle.std.proofs.Math.Path.{sym}
use Rattle.std.proofs.Common.{◌∙◌, arith}
use mathlib.Core.List.{List, []}
use borrow.Author.Tests.{leb-true, leb-false, le-leb}
use Rattle.theory.specs.Classes.Reduction.{reduced}
use Rattle.table.specs.Table.{vertex_count}
use Rattle.table.specs.Answers.{Row, Answer, accepted, refused, Clean}
use Rattle.table.specs.AnswersLaws.{judge_clean, judge_accepted, after_refused, clean_append, clean_split}
use Rattle.table.specs.Reading.{game_rows}
use Rattle.table.specs.ReadingLaws.{rows_render, well_clean, clean_well}
use Rattle.table.specs.WellFormed.{WellFormed}
use Rattle.table.specs.Rules.{FirstRule, Rendered, none, next}
use Rattle.table.specs.RulesLaws.{renders_placed, memory_renders, rendered_append}
use Rattle.table.specs.DecisionsLaws.{rendered_decides, decides_append}
use Rattle.order.specs.OrderCall.{order_bytes}
use Rattle.classes.specs.ClassesCall.{class_words}
use Rattle.classes.specs.ClassesRulesLaws.{memory_rows_render}
use Rattle.reduction.specs.TableCall.{table_rows, table_counts, class_table, TableCall}
use Rattle.reduction.specs.TableRules.{TableFits}
use Rattle.reduction.proofs.TableRulesLaws.{table_clean, clean_table}
use Rattle.plan.specs.Acceptance.{plan_rows, plan_answer}
use Rattle.plan.specs.AcceptanceRules.{Accepts}
use Rattle.plan.specs.AcceptanceLaws.{plan_decides}
use Rattle.plan.specs.WinningLaws.{plan_accepted, plan_accepts}
use Rattle.plan.specs.NumbersLaws.{Numbers, numbers_append, game_numbers, plan_numbers, refused_first, passed_first}
use Rattle.claims.specs.Demands.{reduced_faithful, table_is}
use Rattle.verdict.specs.VerdictCall.{before_plan_rows, verdict_rows, verdict_counts, VerdictCall}
use Rattle.verdict.proofs.VerdictCallLaws.{read_plan, written_well, front_judge, front_after}
use Rattle.verdict.specs.VerdictRules.{before_plan_rules, verdict_rules, VerdictFits, OfPlan}

module _ (game : List ℕ) (vertex : ℕ) (marks spare classes reduction : List ℕ) where
  abbrev before : List Row
  before = before_plan_rows game vertex marks spare classes reduction

  abbrev tabled : List Row
  tabled = table_rows game marks spare classes reduction

  front_render : Rendered before (before_plan_rules game vertex marks spare classes reduction)
  unfolding before_plan_rows
  front_render =
      rendered_append (rows_render game)
      (next (renders_placed 33 vertex _ _ (leb-true (vertex_count game) vertex, le-leb (vertex_count game) vertex))
      (rendered_append (memory_rows_render (vertex_count game) marks spare classes) (next (memory_renders 24 _ reduction) none)))

  -- the rows before 21 are passed
  pub front_vertex : Clean before → WellFormed game × (vertex < vertex_count game)
  unfolding before_plan_rows
  front_vertex c =
      let (g, (v, _)) = clean_split (game_rows game) _ c in
      (clean_well game g, leb-false (vertex_count game) vertex v)

  -- and with them those of the reduced-game call
  pub front_table : Clean before → Clean tabled
  front_table c =
      let (well, below) = front_vertex c in
      (judge_accepted tabled [] []
      (sym (front_judge game vertex 0 [] marks spare classes reduction (well_clean game well) below []) ∙ judge_clean before [] c)).0

  pub front_fits : TableFits game marks spare classes reduction → vertex < vertex_count game → Clean before
  front_fits f below =
      (judge_accepted before [] []
      (front_judge game vertex 0 [] marks spare classes reduction (well_clean game f.classes_fit.order_fits.game) below []
      ∙ judge_clean tabled [] (table_clean game marks spare classes reduction f))).0

-- ---- the call

module _ {game : List ℕ} {vertex player : ℕ} {plan marks spare classes reduction : List ℕ} {answer : Answer} {marks' spare' classes' reduction' : List ℕ}
    (call : VerdictCall game vertex player plan marks spare classes reduction answer marks' spare' classes' reduction') where
  abbrev rows : List Row
  rows = verdict_rows game vertex player plan marks spare classes reduction

  abbrev front : List Row
  front = before_plan_rows game vertex marks spare classes reduction

  abbrev Fits : Type 0
  Fits = VerdictFits game vertex player plan marks spare classes reduction

  -- once the rows before 11 are passed, memory is as the reduced-game call leaves it
  pub verdict_table : Clean front → TableCall reduced game marks spare classes reduction (accepted (table_counts reduced game)) marks' spare' classes' reduction'
  verdict_table c =
      let (well, below) = front_vertex game vertex marks spare classes reduction c in
      let same = front_after game vertex player plan marks spare classes reduction (well_clean game well) below in record {
        verdict = sym (judge_clean (table_rows game marks spare classes reduction) _ (front_table game vertex marks spare classes reduction c));
        marks_after = call.marks_after ∙ same (order_bytes game) marks;
        spare_after = call.spare_after ∙ same (order_bytes game) spare;
        classes_after = call.classes_after ∙ same (class_words game) classes;
        output_after = call.reduction_after ∙ same (class_table reduced game) reduction;
      }

  -- so the reader accepts the table of the reduced game
  module _ (c : Clean front) where
    reduced_well : WellFormed (class_table reduced game)
    reduced_well = rw (table_is reduced_faithful (verdict_table c) _ _ _ refl) at (written_well (verdict_table c) _ _ _ refl)

    -- and 11 to 16 are passed exactly by the plans that the acceptor accepts
    plan_clean : Clean (plan_rows (class_table reduced game) player plan) → Accepts (class_table reduced game) player plan
    unfolding plan_answer
    plan_clean d =
        (plan_accepted (class_table reduced game) player plan []
        (read_plan (class_table reduced game) player plan reduced_well [] ∙ judge_clean _ [] d)).0

    clean_plan : Accepts (class_table reduced game) player plan → Clean (plan_rows (class_table reduced game) player plan)
    unfolding plan_answer
    clean_plan a =
        (judge_accepted _ [] []
        (sym (read_plan (class_table reduced game) player plan reduced_well []) ∙ plan_accepts (class_table reduced game) player plan a)).0

  pub verdict_refused : (k p : ℕ) → (answer ≡ refused k p) ↔ FirstRule (verdict_rules game vertex player plan marks spare classes reduction) k p
  unfolding verdict_rows
  verdict_refused k p =
      let d =
      decides_append (rendered_decides (front_render game vertex marks spare classes reduction))
      (λ c. plan_decides (class_table reduced game) player plan (reduced_well c)) in
      let r = d.refuses (verdict_counts game vertex plan) k p in
      (λ e. r.0 (sym call.verdict ∙ e), λ f. call.verdict ∙ r.1 f)

  pub verdict_accepted : (given : List ℕ) → answer ≡ accepted given → Fits × (given ≡ verdict_counts game vertex plan)
  unfolding verdict_rows
  verdict_accepted given e =
      let a = judge_accepted rows (verdict_counts game vertex plan) given (sym call.verdict ∙ e) in
      let s = clean_split front _ a.0 in (
        record {
          table_fits = clean_table game marks spare classes reduction (front_table game vertex marks spare classes reduction s.0);
          vertex_in = (front_vertex game vertex marks spare classes reduction s.0).1;
          accepts = plan_clean s.0 s.1;
        },
        sym a.1,
      )

  pub verdict_accepts : Fits → answer ≡ accepted (verdict_counts game vertex plan)
  unfolding verdict_rows
  verdict_accepts f =
      let c = front_fits game vertex marks spare classes reduction f.table_fits f.vertex_in in
      call.verdict ∙ judge_clean rows (verdict_counts game vertex plan) (clean_append front _ c (clean_plan c f.accepts))

  -- ---- after 1 to 8, 33 and 21 to 24 all memory is old; "After 11 to 16 and after either answer, the working memory holds order, classes and
  -- reduction."

  front_numbers : Numbers (λ k. ¬ OfPlan k) front
  unfolding before_plan_rows
  front_numbers =
      numbers_append (λ k. ¬ OfPlan k) (game_rows game) _ (game_numbers (λ k. ¬ OfPlan k) (λ k h o. omega (arith, o.0)) _ game)
      (λ o. omega (arith, o.1), (λ o. omega (arith, o.1), (λ o. omega (arith, o.1), (λ o. omega (arith, o.1), (λ o. omega (arith, o.1), tt)))))

  rest_numbers : Numbers (λ k. ¬ ¬ OfPlan k) (plan_rows (class_table reduced game) player plan)
  rest_numbers = plan_numbers (λ k. ¬ ¬ OfPlan k) (λ k h l n. n (h, l)) (class_table reduced game) player plan

  pub verdict_old : (k p : ℕ) → answer ≡ refused k p → ¬ OfPlan k → (marks' ≡ marks) × (spare' ≡ spare) × (classes' ≡ classes) × (reduction' ≡ reduction)
  unfolding verdict_rows
  verdict_old k p a h =
      let e = refused_first (λ k. ¬ OfPlan k) front _ front_numbers rest_numbers _ k p (sym call.verdict ∙ a) h in (
        call.marks_after ∙ after_refused front _ (order_bytes game) marks e,
        call.spare_after ∙ after_refused front _ (order_bytes game) spare e,
        call.classes_after ∙ after_refused front _ (class_words game) classes e,
        call.reduction_after ∙ after_refused front _ (class_table reduced game) reduction e,
      )

  pub verdict_passed : (k p : ℕ) → answer ≡ refused k p → OfPlan k → Clean front
  unfolding verdict_rows
  verdict_passed k p a h = passed_first (λ k. ¬ OfPlan k) front _ front_numbers rest_numbers _ k p (sym call.verdict ∙ a) (λ n. n h)
