-- Tables of one game: the verdict call answers and writes the same. Refusal 24 goes by a table's own number of edges, so the reduction has to
-- be long enough for both; after either answer it is. The law stands here since crate `verdict` concludes from contracts and the transfer alone.
use Rattle.std.specs.Prelude.{◌≡◌, ℕ, ◌≤◌, eqb, leb, length}
use Rattle.std.proofs.Math.Path.{sym, ap₂}
use Rattle.std.proofs.Common.{ap, ◌∙◌, le-ltb}
use mathlib.Core.List.{List, [], ◌∷◌, ◌++◌}
use Rattle.theory.specs.Logic.Bools.{bit}
use Rattle.theory.specs.Classes.Reduction.{reduced}
use Rattle.theory.proofs.Games.AgreementLaws.{agree_class, agree_reduced}
use Rattle.table.specs.Table.{vertex_count, table_edges, table_length}
use Rattle.table.specs.Answers.{Row, row, memory_row, Answer, judge, Clean, after}
use Rattle.table.specs.AnswersLaws.{judge_clean, judge_parts, after_judged}
use Rattle.table.specs.Reading.{game_rows}
use Rattle.table.specs.ReadingLaws.{well_clean}
use Rattle.table.specs.WellFormed.{WellFormed}
use Rattle.table.specs.SameGame.{SameGame}
use Rattle.table.specs.SameGameLaws.{same_agree}
use Rattle.order.specs.SameOrderLaws.{same_order_bytes}
use Rattle.classes.specs.ClassesCall.{memory_rows}
use Rattle.classes.specs.SameClassesLaws.{same_class_words}
use Rattle.reduction.specs.TableCall.{table_counts, class_table}
use Rattle.reduction.proofs.SameTableLaws.{same_table_counts, same_reduced_table}
use Rattle.plan_links.specs.PlanTable.{vertex_at}
use Rattle.plan.specs.Acceptance.{plan_rows}
use Rattle.verdict.specs.VerdictCall.{before_plan_rows, verdict_rows, shown_for, verdict_counts, VerdictCall}

module _ {g h : List ℕ} (same : SameGame g h) (wg : WellFormed g) (wh : WellFormed h) (vertex player : ℕ) (plan marks spare classes reduction : List ℕ)
    (longG : table_length (vertex_count g) (table_edges g) ≤ length reduction) (longH : table_length (vertex_count h) (table_edges h) ≤ length reduction) where
  abbrev front : List ℕ → List Row
  front game = before_plan_rows game vertex marks spare classes reduction

  -- 33 and 21 to 23 go by n
  abbrev sized : ℕ → List Row
  sized n = row 33 (leb n vertex) vertex ∷ memory_rows n (length marks) (length spare) (length classes)

  abbrev room : List ℕ → List Row
  room game = memory_row 24 (table_length (vertex_count game) (table_edges game)) reduction ∷ []

  long_clean : (game : List ℕ) → table_length (vertex_count game) (table_edges game) ≤ length reduction → Clean (room game)
  long_clean game l = (le-ltb (length reduction) _ l, tt)

  same_front : judge (front g) [] ≡ judge (front h) []
  unfolding before_plan_rows
  same_front =
      judge_parts (game_rows g) (game_rows h) (sized (vertex_count g) ++ room g) (sized (vertex_count h) ++ room h) [] [] [] []
      (judge_clean (game_rows g) [] (well_clean g wg) ∙ sym (judge_clean (game_rows h) [] (well_clean h wh)))
      (λ c.
      judge_parts (sized (vertex_count g)) (sized (vertex_count h)) (room g) (room h) [] [] [] []
      (ap (λ (n : ℕ). judge (sized n) []) same.vertices)
      (λ d. judge_clean (room g) [] (long_clean g longG) ∙ sym (judge_clean (room h) [] (long_clean h longH))))

  same_counts : verdict_counts g vertex plan ≡ verdict_counts h vertex plan
  unfolding shown_for
  same_counts =
      ap₂ (λ (xs : List ℕ) (c : ℕ). xs ++ (bit (eqb (vertex_at plan 0) c) ∷ []))
      (same_table_counts same reduced (agree_reduced (same_agree same))) (agree_class (same_agree same) vertex)

  -- a buffer after the call
  buffer : {new new' : List ℕ} → new ≡ new' → (old : List ℕ) → after (front g) new old ≡ after (front h) new' old
  buffer e old = after_judged (front g) (front h) [] [] old same_front (λ c. e)

  pub same_verdict : {answer : Answer} {marks' spare' classes' reduction' : List ℕ}
      → VerdictCall g vertex player plan marks spare classes reduction answer marks' spare' classes' reduction'
      → VerdictCall h vertex player plan marks spare classes reduction answer marks' spare' classes' reduction'
  unfolding verdict_rows
  same_verdict call = record {
    verdict =
        call.verdict
        ∙ judge_parts (front g) (front h) (plan_rows (class_table reduced g) player plan) (plan_rows (class_table reduced h) player plan) [] [] _ _ same_front
        (λ c. ap₂ (λ (w xs : List ℕ). judge (plan_rows w player plan) xs) (same_reduced_table same) same_counts);
    marks_after = call.marks_after ∙ buffer (same_order_bytes same) marks;
    spare_after = call.spare_after ∙ buffer (same_order_bytes same) spare;
    classes_after = call.classes_after ∙ buffer (same_class_words same) classes;
    reduction_after = call.reduction_after ∙ buffer (same_reduced_table same) reduction;
  }
