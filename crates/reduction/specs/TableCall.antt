-- The calls that write a game of classes: document 01, "Classes, quotient, reduced game", with their table of refusals.
use Rattle.std.specs.Prelude.{◌≡◌, List, [], ◌∷◌, ◌++◌, ℕ, Result, Ok, Err}
use Rattle.theory.specs.Games.Game.{Game, edge_count}
use Rattle.table.specs.Table.{vertex_count, table_edges, table_length, game_of}
use Rattle.table.specs.TableWords.{edges_of, table_words}
use Rattle.table.specs.Answers.{Row, memory_row, Answer, accepted, refused, judge, after}
use Rattle.order.specs.OrderCall.{order_bytes}
use Rattle.classes.specs.ClassesCall.{class_rows, class_total, class_words}
use Rattle.table.specs.declared.Refusal.{Refusal}
use Rattle.reduction.specs.declared.TableCounts.{TableCounts}

-- the rows of the classes call, and 24, which goes by the input's sizes
unfoldable pub table_rows : List ℕ → List ℕ → List ℕ → List ℕ → List ℕ → List Row
table_rows game marks spare classes output =
    class_rows game marks spare classes ++ (memory_row 24 (table_length (vertex_count game) (table_edges game)) output ∷ [])

-- what the cases of the verdict say: accepted with the class count and the table's vertices and edges
abbrev pub tabulation_answer : Result TableCounts Refusal → Answer
tabulation_answer (Ok c) = accepted (c.classes ∷ c.vertices ∷ c.edges ∷ [])
tabulation_answer (Err f) = refused f.number f.place

-- accepted with the class count and the vertices and edges of K
abbrev pub table_counts : (Game → Game) → List ℕ → List ℕ
table_counts K game = class_total game ∷ (K (game_of game)).n ∷ edge_count (K (game_of game)) ∷ []

-- the table of the game K of classes, its edges by source, ascending, then by target, ascending
abbrev pub class_table : (Game → Game) → List ℕ → List ℕ
class_table K game = table_words (K (game_of game)) (edges_of (K (game_of game)))

-- the promise of a call that writes the game K of classes: the verdict, and every lent word
pub record TableCall (K : Game → Game) (game marks spare classes output : List ℕ) (answer : Answer) (marks' spare' classes' output' : List ℕ) : Type 0 where
  pub verdict : answer ≡ judge (table_rows game marks spare classes output) (table_counts K game)
  pub marks_after : marks' ≡ after (table_rows game marks spare classes output) (order_bytes game) marks
  pub spare_after : spare' ≡ after (table_rows game marks spare classes output) (order_bytes game) spare
  pub classes_after : classes' ≡ after (table_rows game marks spare classes output) (class_words game) classes
  pub output_after : output' ≡ after (table_rows game marks spare classes output) (class_table K game) output
