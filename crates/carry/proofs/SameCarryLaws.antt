-- Tables of one game: the calls that carry a plan answer and write the same. In the class call refusal 24 goes by a table's own number of
-- edges, so the reduction has to be long enough for both; after acceptance it is.
use Rattle.std.specs.Prelude.{◌≡◌, refl, not, ℕ, ◌≤◌, ◌<◌, ltb, length}
use Rattle.std.proofs.Common.{ap, ◌∙◌, ltb-true}
use Rattle.std.proofs.Math.Path.{ap₂}
use mathlib.Core.List.{List, [], ◌∷◌, ◌++◌}
use Rattle.std.proofs.lemmas.Bool.{not-false}
use Rattle.theory.specs.Logic.Bools.{◌&◌}
use Rattle.theory.proofs.Logic.BoolsLaws.{and_out}
use Rattle.theory.specs.Games.Game.{Player}
use Rattle.theory.specs.Order.Order.{order}
use Rattle.theory.specs.Order.Passes.{Rel}
use Rattle.theory.specs.Plans.Plan.{Plan}
use Rattle.theory.specs.Classes.Reduction.{no_better, reduced}
use Rattle.theory.proofs.Games.AgreementLaws.{agree_reduced, agree_wins}
use Rattle.theory.specs.Carry.Carry.{class_no_better}
use Rattle.theory.proofs.Carry.CarryAgreementLaws.{agree_no_better, agree_class_no_better, agree_carried_plan, agree_carried_class_plan}
use Rattle.table.specs.Table.{vertex_count, table_edges, table_length, player_of, game_of}
use Rattle.table.specs.TableWords.{edges_of}
use Rattle.table.specs.TableWordsLaws.{table_words_agree, edges_of_lists}
use Rattle.table.specs.Answers.{Row, row, Answer, judge, Clean, after}
use Rattle.table.specs.AnswersLaws.{judge_parts, after_judged, clean_split}
use Rattle.table.specs.WellFormed.{WellFormed}
use Rattle.table.specs.SameGame.{SameGame}
use Rattle.table.specs.SameGameLaws.{same_agree}
use Rattle.order.specs.OrderCall.{order_rows, order_bytes, passes_answer}
use Rattle.order.specs.SameOrderLaws.{same_order_bytes, same_order_answer}
use Rattle.classes.specs.ClassesCall.{class_words}
use Rattle.reduction.specs.TableCall.{table_rows, table_counts, class_table, TableCall}
use Rattle.reduction.proofs.SameTableLaws.{same_table, same_table_counts, same_reduced_table}
use Rattle.plan_links.specs.PlanTable.{vertex_at, plan_of}
use Rattle.plan.specs.Acceptance.{plan_rows}
use Rattle.plan.specs.SamePlanLaws.{same_plan_rows}
use Rattle.carry_output.specs.PlanWords.{plan_words, plan_counts, size_rows, carried_rows}
use Rattle.carry.specs.CarryCall.{carried_to, judged_rows, carry_rows, CarryCall, carried_from_class, carry_class_rows, CarryClassCall}
use Rattle.carry.proofs.CarryCallLaws.{reduced_well}
use Rattle.carry.proofs.CarryRulesLaws.{clean_accepts}

-- ---- 33 to 35: the same needed order, and the same carried plan where 33 is passed

module _ {n n' : ℕ} (size : n ≡ n') {K K' : Rel} (needed : K ≡ K') (x y : ℕ) {C C' : Plan} (same : y < n → C ≡ C') (output : List ℕ) where
  abbrev first : List Row
  first = row 33 (not (ltb y n & K x y)) y ∷ []

  passed : Clean first → C ≡ C'
  passed c = same (ltb-true y n (and_out (not-false (ltb y n & K x y) c.0)).0)

  carried_plan_lem : Clean (carried_rows n K x y C output) → C ≡ C'
  unfolding carried_rows
  carried_plan_lem c = passed (c.0, tt)

  carried_same : {counts counts' : List ℕ} → (C ≡ C' → counts ≡ counts')
      → judge (carried_rows n K x y C output) counts ≡ judge (carried_rows n' K' x y C' output) counts'
  unfolding carried_rows
  carried_same {counts} {counts'} e =
      judge_parts first (row 33 (not (ltb y n' & K' x y)) y ∷ []) (size_rows C output) (size_rows C' output) [] [] counts counts'
      (ap₂ (λ (m : ℕ) (L : Rel). judge (row 33 (not (ltb y m & L x y)) y ∷ []) []) size needed)
      (λ c. let p = passed c in ap₂ (λ (D : Plan) (xs : List ℕ). judge (size_rows D output) xs) p (e p))

-- ---- the plan is on the game itself

module _ {g h : List ℕ} (same : SameGame g h) (wg : WellFormed g) (wh : WellFormed h) (player : ℕ) (plan : List ℕ) (vertex : ℕ)
    (marks spare output : List ℕ) where
  -- the order's rows and the plan's
  same_judged : judge (judged_rows g player plan marks spare) [] ≡ judge (judged_rows h player plan marks spare) []
  unfolding judged_rows passes_answer
  same_judged =
      judge_parts (order_rows g marks spare) (order_rows h marks spare) (plan_rows g player plan) (plan_rows h player plan) _ _ [] []
      (same_order_answer same wg wh marks spare) (λ c. same_plan_rows same player plan wg)

  -- a plan that passes is carried to the same plan
  carried_to_same : Clean (judged_rows g player plan marks spare) → vertex < vertex_count g → carried_to g player plan vertex ≡ carried_to h player plan vertex
  unfolding judged_rows game_of
  carried_to_same c l =
      agree_carried_plan (player_of player) (same_agree same) (plan_of plan) (vertex_at plan 0) vertex
      (clean_accepts g player plan wg (clean_split (order_rows g marks spare) _ c).1).wins l

  abbrev needs : no_better (player_of player) (order (game_of g)) ≡ no_better (player_of player) (order (game_of h))
  needs = agree_no_better (player_of player) (same_agree same)

  same_carry_rows : judge (carry_rows g player plan vertex marks spare output) (plan_counts (carried_to g player plan vertex))
      ≡ judge (carry_rows h player plan vertex marks spare output) (plan_counts (carried_to h player plan vertex))
  unfolding carry_rows
  same_carry_rows =
      judge_parts (judged_rows g player plan marks spare) (judged_rows h player plan marks spare) _ _ [] [] _ _ same_judged
      (λ c. carried_same same.vertices needs (vertex_at plan 0) vertex (carried_to_same c) output (ap plan_counts))

  same_carried : Clean (carry_rows g player plan vertex marks spare output) → carried_to g player plan vertex ≡ carried_to h player plan vertex
  unfolding carry_rows
  same_carried c =
      let s = clean_split (judged_rows g player plan marks spare) _ c in
      carried_plan_lem same.vertices needs (vertex_at plan 0) vertex (carried_to_same s.0) output s.1

  pub same_carry : {answer : Answer} {marks' spare' output' : List ℕ} → CarryCall g player plan vertex marks spare output answer marks' spare' output'
      → CarryCall h player plan vertex marks spare output answer marks' spare' output'
  same_carry call = record {
    verdict = call.verdict ∙ same_carry_rows;
    marks_after = call.marks_after ∙ after_judged (judged_rows g player plan marks spare) _ [] [] marks same_judged (λ c. same_order_bytes same);
    spare_after = call.spare_after ∙ after_judged (judged_rows g player plan marks spare) _ [] [] spare same_judged (λ c. same_order_bytes same);
    output_after =
        call.output_after
        ∙ after_judged (carry_rows g player plan vertex marks spare output) _ _ _ output same_carry_rows (λ c. ap plan_words (same_carried c));
  }

-- ---- the plan is on the reduced game

module _ {g h : List ℕ} (same : SameGame g h) (wg : WellFormed g) (wh : WellFormed h) (player : ℕ) (plan : List ℕ) (vertex : ℕ)
    (marks spare classes reduction output : List ℕ)
    (longG : table_length (vertex_count g) (table_edges g) ≤ length reduction) (longH : table_length (vertex_count h) (table_edges h) ≤ length reduction) where
  abbrev a : Player
  a = player_of player

  abbrev planned : List ℕ → List Row
  planned game = plan_rows (class_table reduced game) player plan

  abbrev arriving : List ℕ → List Row
  arriving game = carried_rows (vertex_count game) (class_no_better a (game_of game)) (vertex_at plan 0) vertex (carried_from_class game player plan vertex) output

  abbrev counts : List ℕ → List ℕ
  counts game = table_counts reduced game ++ plan_counts (carried_from_class game player plan vertex)

  from_class_same : Clean (planned g) → vertex < vertex_count g → carried_from_class g player plan vertex ≡ carried_from_class h player plan vertex
  unfolding game_of
  from_class_same c l =
      let R = reduced (game_of g) in
      let accepts = clean_accepts (class_table reduced g) player plan (reduced_well g wg) c in
      agree_carried_class_plan a (same_agree same) (plan_of plan) (vertex_at plan 0) vertex
      (agree_wins a (game_of (class_table reduced g)) R (table_words_agree R (edges_of R) (edges_of_lists R)) (plan_of plan) (vertex_at plan 0) accepts.wins) l

  needs_class : class_no_better a (game_of g) ≡ class_no_better a (game_of h)
  needs_class = agree_class_no_better a (same_agree same)

  -- what the reduced-game call does on the one it does on the other
  abbrev rows : List ℕ → List Row
  rows game = table_rows game marks spare classes reduction

  abbrev written : List ℕ → List ℕ → List ℕ → List ℕ
  written game new old = after (rows game) new old

  same_written : TableCall reduced h marks spare classes reduction (judge (rows g) (table_counts reduced g)) (written g (order_bytes g) marks)
      (written g (order_bytes g) spare) (written g (class_words g) classes) (written g (class_table reduced g) reduction)
  same_written =
      same_table same reduced (agree_reduced (same_agree same)) marks spare classes reduction wg wh longG longH
      (record { verdict = refl; marks_after = refl; spare_after = refl; classes_after = refl; output_after = refl })

  same_class_rows : judge (carry_class_rows g player plan vertex marks spare classes reduction output) (counts g)
      ≡ judge (carry_class_rows h player plan vertex marks spare classes reduction output) (counts h)
  unfolding carry_class_rows
  same_class_rows =
      judge_parts (rows g) (rows h) (planned g ++ arriving g) (planned h ++ arriving h) _ _ (counts g) (counts h) same_written.verdict
      (λ c.
      judge_parts (planned g) (planned h) (arriving g) (arriving h) [] [] (counts g) (counts h)
      (ap (λ (w : List ℕ). judge (plan_rows w player plan) []) (same_reduced_table same))
      (λ d.
      carried_same same.vertices needs_class (vertex_at plan 0) vertex (from_class_same d) output
      (λ e. ap₂ (λ (xs ys : List ℕ). xs ++ ys) (same_table_counts same reduced (agree_reduced (same_agree same))) (ap plan_counts e))))

  same_from_class : Clean (carry_class_rows g player plan vertex marks spare classes reduction output)
      → carried_from_class g player plan vertex ≡ carried_from_class h player plan vertex
  unfolding carry_class_rows
  same_from_class c =
      let s = clean_split (planned g) (arriving g) (clean_split (rows g) _ c).1 in
      carried_plan_lem same.vertices needs_class (vertex_at plan 0) vertex (from_class_same s.0) output s.1

  pub same_carry_class : {answer : Answer} {marks' spare' classes' reduction' output' : List ℕ}
      → CarryClassCall g player plan vertex marks spare classes reduction output answer marks' spare' classes' reduction' output'
      → CarryClassCall h player plan vertex marks spare classes reduction output answer marks' spare' classes' reduction' output'
  same_carry_class call = record {
    verdict = call.verdict ∙ same_class_rows;
    marks_after = call.marks_after ∙ same_written.marks_after;
    spare_after = call.spare_after ∙ same_written.spare_after;
    classes_after = call.classes_after ∙ same_written.classes_after;
    reduction_after = call.reduction_after ∙ same_written.output_after;
    output_after =
        call.output_after
        ∙ after_judged (carry_class_rows g player plan vertex marks spare classes reduction output) _ _ _ output same_class_rows
        (λ c. ap plan_words (same_from_class c));
  }
