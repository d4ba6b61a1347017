-- The verdict call: document 02, CR 14, with its table of refusals. The plan is on the reduced game.
use Rattle.std.specs.Prelude.{◌≡◌, List, [], ◌∷◌, ◌++◌, ℕ, eqb, leb, length, Result, Ok, Err}
use Rattle.theory.specs.Logic.Bools.{bit}
use Rattle.theory.specs.Classes.Reduction.{reduced, class_of}
use Rattle.table.specs.Table.{vertex_count, table_edges, table_length, game_of}
use Rattle.table.specs.Answers.{Row, row, memory_row, Answer, accepted, refused, judge, after}
use Rattle.table.specs.Reading.{game_rows}
use Rattle.order.specs.OrderCall.{order_bytes}
use Rattle.classes.specs.ClassesCall.{memory_rows, class_words}
use Rattle.reduction.specs.TableCall.{table_counts, class_table}
use Rattle.reduction.specs.declared.TableCounts.{TableCounts}
use Rattle.plan_links.specs.PlanTable.{vertex_at}
use Rattle.plan.specs.Acceptance.{plan_rows}
use Rattle.table.specs.declared.Refusal.{Refusal}
use Rattle.verdict.specs.declared.Verdict.{Verdict}

-- the numbers of each case: the counts with 1 for "wins" and 0 for "not shown", or the refusal
abbrev pub verdict_answer : Result Verdict Refusal → Answer
verdict_answer (Ok (Verdict.Wins c)) = accepted (c.classes ∷ c.vertices ∷ c.edges ∷ 1 ∷ [])
verdict_answer (Ok (Verdict.NotShown c)) = accepted (c.classes ∷ c.vertices ∷ c.edges ∷ 0 ∷ [])
verdict_answer (Err f) = refused f.number f.place

-- 1 to 8; 33, "a vertex not below n"; 21 to 24: what is judged before order, classes and reduction are written
unfoldable pub before_plan_rows : List ℕ → ℕ → List ℕ → List ℕ → List ℕ → List ℕ → List Row
before_plan_rows game vertex marks spare classes reduction =
    game_rows game
    ++ ((row 33 (leb (vertex_count game) vertex) vertex ∷ [])
    ++ (memory_rows (vertex_count game) (length marks) (length spare) (length classes)
    ++ (memory_row 24 (table_length (vertex_count game) (table_edges game)) reduction ∷ [])))

-- then 11 to 16 about the reduced game
unfoldable pub verdict_rows : List ℕ → ℕ → ℕ → List ℕ → List ℕ → List ℕ → List ℕ → List ℕ → List Row
verdict_rows game vertex player plan marks spare classes reduction =
    before_plan_rows game vertex marks spare classes reduction ++ plan_rows (class_table reduced game) player plan

-- "starts at the vertex's class": 1 if so, else 0
unfoldable pub shown_for : List ℕ → ℕ → List ℕ → ℕ
shown_for game vertex plan = bit (eqb (vertex_at plan 0) (class_of (game_of game) vertex))

-- accepted with the classes, the reduction's vertices and edges, and whether it is shown
abbrev pub verdict_counts : List ℕ → ℕ → List ℕ → List ℕ
verdict_counts game vertex plan = table_counts reduced game ++ (shown_for game vertex plan ∷ [])

-- the promise: the verdict, and every lent word
pub record VerdictCall (game : List ℕ) (vertex player : ℕ) (plan marks spare classes reduction : List ℕ) (answer : Answer)
    (marks' spare' classes' reduction' : List ℕ) : Type 0 where
  pub verdict : answer ≡ judge (verdict_rows game vertex player plan marks spare classes reduction) (verdict_counts game vertex plan)
  pub marks_after : marks' ≡ after (before_plan_rows game vertex marks spare classes reduction) (order_bytes game) marks
  pub spare_after : spare' ≡ after (before_plan_rows game vertex marks spare classes reduction) (order_bytes game) spare
  pub classes_after : classes' ≡ after (before_plan_rows game vertex marks spare classes reduction) (class_words game) classes
  pub reduction_after : reduction' ≡ after (before_plan_rows game vertex marks spare classes reduction) (class_table reduced game) reduction

-- 11 to 16 about any table, with these counts and whether the plan starts at the class. No public promise cites it.
unfoldable pub start_answer : List ℕ → ℕ → List ℕ → ℕ → TableCounts → Answer
start_answer table player plan class c =
    judge (plan_rows table player plan) (c.classes ∷ c.vertices ∷ c.edges ∷ bit (eqb (vertex_at plan 0) class) ∷ [])
