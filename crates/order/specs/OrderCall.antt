-- The order call: document 01, "The order", with its table of refusals. Rows and promise are for any relation that is written by passes.
use Rattle.std.specs.Prelude.{◌≡◌, List, [], ◌∷◌, ◌++◌, ℕ, Result, Ok, Err}
use Rattle.theory.specs.Order.Passes.{Marks}
use Rattle.theory.specs.Games.Game.{Game}
use Rattle.theory.specs.Order.Order.{order_marks, order_passes}
use Rattle.table.specs.Table.{vertex_count, game_of}
use Rattle.table.specs.Answers.{Row, memory_row, Answer, accepted, refused, judge, after}
use Rattle.table.specs.Reading.{game_rows}
use Rattle.marks.specs.Marks.{marks_length, bytes}
use Rattle.table.specs.declared.Refusal.{Refusal}
use Rattle.order.specs.declared.PassCount.{PassCount}

-- 1 to 8, 21, 22
unfoldable pub order_rows : List ℕ → List ℕ → List ℕ → List Row
order_rows game marks spare =
    let needed = marks_length (vertex_count game) in
    game_rows game ++ (memory_row 21 needed marks ∷ memory_row 22 needed spare ∷ [])

-- accepted with the pass count
unfoldable pub passes_answer : (Game → ℕ) → List ℕ → List ℕ → List ℕ → Answer
passes_answer passes game marks spare = judge (order_rows game marks spare) (passes (game_of game) ∷ [])

abbrev pub order_answer : List ℕ → List ℕ → List ℕ → Answer
order_answer = passes_answer order_passes

-- what the cases of the verdict say
abbrev pub ordering_answer : Result PassCount Refusal → Answer
ordering_answer (Ok p) = accepted (p.passes ∷ [])
ordering_answer (Err f) = refused f.number f.place

-- the marks of a relation of a table's game, in memory; those of the order
abbrev pub bytes_of : (Game → Marks) → List ℕ → List ℕ
bytes_of relation game = bytes (relation (game_of game))

abbrev pub order_bytes : List ℕ → List ℕ
order_bytes = bytes_of order_marks

-- The promise of a call that writes a relation by passes: the verdict, and every lent word. As in every promise of a call: lent memory as it was,
-- the answer, lent memory as it is.
pub record MarksCall (relation : Game → Marks) (passes : Game → ℕ) (game marks spare : List ℕ) (answer : Answer) (marks' spare' : List ℕ) : Type 0 where
  pub verdict : answer ≡ passes_answer passes game marks spare
  pub marks_after : marks' ≡ after (order_rows game marks spare) (bytes_of relation game) marks
  pub spare_after : spare' ≡ after (order_rows game marks spare) (bytes_of relation game) spare

-- the promise of the order call
abbrev pub OrderCall : List ℕ → List ℕ → List ℕ → Answer → List ℕ → List ℕ → Type 0
OrderCall = MarksCall order_marks order_passes
