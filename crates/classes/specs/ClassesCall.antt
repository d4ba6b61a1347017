-- The classes call: document 01, "Classes, quotient, reduced game", with its table of refusals.
use Rattle.std.specs.Prelude.{◌≡◌, List, [], ◌∷◌, ◌++◌, ℕ, ltb, length, Result, Ok, Err}
use Rattle.theory.specs.Logic.Range.{tabulate}
use Rattle.theory.specs.Order.Passes.{Marks, Rel}
use Rattle.theory.specs.Games.Game.{Game}
use Rattle.theory.specs.Order.Order.{order, order_marks}
use Rattle.theory.specs.Classes.Reduction.{class_count, class_number, class_of}
use Rattle.table.specs.Table.{vertex_count, game_of}
use Rattle.table.specs.Answers.{Row, row, Answer, accepted, refused, judge, after}
use Rattle.table.specs.Reading.{game_rows}
use Rattle.marks.specs.Marks.{marks_length}
use Rattle.order.specs.OrderCall.{bytes_of}
use Rattle.table.specs.declared.Refusal.{Refusal}
use Rattle.table.specs.declared.NoCounts.{NoCounts}
use Rattle.classes.specs.declared.ClassCount.{ClassCount}

-- 21 to 23, for n vertices and buffers of these lengths
abbrev pub memory_rows : ℕ → ℕ → ℕ → ℕ → List Row
memory_rows n marks spare classes =
    let needed = marks_length n in
    row 21 (ltb marks needed) needed ∷ row 22 (ltb spare needed) needed ∷ row 23 (ltb classes n) n ∷ []

-- 1 to 8, then 21 to 23
unfoldable pub class_rows : List ℕ → List ℕ → List ℕ → List ℕ → List Row
class_rows game marks spare classes = game_rows game ++ memory_rows (vertex_count game) (length marks) (length spare) (length classes)

-- how many classes the game of a table has, and the class of each vertex
unfoldable pub class_total : List ℕ → ℕ
class_total game = class_count (vertex_count game) (order (game_of game))

unfoldable pub class_words : List ℕ → List ℕ
class_words game = tabulate (vertex_count game) (class_of (game_of game))

-- the same by another relation of the game
unfoldable pub total_of : (Game → Rel) → List ℕ → ℕ
total_of le game = class_count (vertex_count game) (le (game_of game))

unfoldable pub words_of : (Game → Rel) → List ℕ → List ℕ
words_of le game = tabulate (vertex_count game) (class_number (vertex_count game) (le (game_of game)))

-- accepted with the class count
unfoldable pub total_answer : (List ℕ → ℕ) → List ℕ → List ℕ → List ℕ → List ℕ → Answer
total_answer total game marks spare classes = judge (class_rows game marks spare classes) (total game ∷ [])

abbrev pub classes_answer : List ℕ → List ℕ → List ℕ → List ℕ → Answer
classes_answer = total_answer class_total

-- what the cases of the verdicts say
abbrev pub classification_answer : Result ClassCount Refusal → Answer
classification_answer (Ok c) = accepted (c.classes ∷ [])
classification_answer (Err f) = refused f.number f.place

-- The promise of a call that writes a relation and its classes: the verdict, with the class count, and every lent word.
pub record NumberedCall (relation : Game → Marks) (total : List ℕ → ℕ) (words : List ℕ → List ℕ) (game marks spare classes : List ℕ) (answer : Answer)
    (marks' spare' classes' : List ℕ) : Type 0 where
  pub verdict : answer ≡ total_answer total game marks spare classes
  pub marks_after : marks' ≡ after (class_rows game marks spare classes) (bytes_of relation game) marks
  pub spare_after : spare' ≡ after (class_rows game marks spare classes) (bytes_of relation game) spare
  pub classes_after : classes' ≡ after (class_rows game marks spare classes) (words game) classes

-- the promise of the classes call
abbrev pub ClassesCall : List ℕ → List ℕ → List ℕ → List ℕ → Answer → List ℕ → List ℕ → List ℕ → Type 0
ClassesCall = NumberedCall order_marks class_total class_words
