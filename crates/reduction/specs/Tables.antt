-- The words of a table as the code puts them together, and what is written in the end. No public promise cites these.
use Rattle.std.specs.Prelude.{◌≡◌, List, [], ◌∷◌, ◌++◌, ℕ, zero, suc, ◌+◌, ◌-◌, ◌*◌, ◌≤◌, ◌<◌, length, get_or}
use Rattle.theory.specs.Logic.Range.{tabulate}
use Rattle.theory.specs.Games.Game.{Game, edge_count}
use Rattle.table.specs.Table.{vertex_count, game_of}
use Rattle.table.specs.Answers.{written}
use Rattle.order.specs.OrderWritten.{OrderDone}
use Rattle.reduction_rows.specs.Reached.{words_for}
use Rattle.classes.specs.ClassesCall.{class_total, class_words}
use Rattle.reduction.specs.TableCall.{class_table}
use Rattle.reduction.specs.declared.TableCounts.{TableCounts}

-- the words of k classes, by their representatives, and the sources of e edges
unfoldable pub head_by : List ℕ → List ℕ → ℕ → ℕ → List ℕ → List ℕ
head_by game reps k e sources =
    k ∷ e ∷ (tabulate k (λ c. get_or game (2 + get_or reps c 0) 0)
    ++ (tabulate k (λ c. get_or game (2 + vertex_count game + get_or reps c 0) 0) ++ sources))

-- ---- sources, by the places where the edges of each class stop

-- where the edges of class c start, if those of class 0 start at `at`
unfoldable pub start_of : ℕ → List ℕ → ℕ → ℕ
start_of at stops zero = at
start_of at stops (suc c) = get_or stops c 0

-- each of the first c classes, as often as it has edges
unfoldable pub spread : ℕ → List ℕ → ℕ → List ℕ
spread at stops zero = []
spread at stops (suc c) = spread at stops c ++ tabulate (get_or stops c 0 - start_of at stops c) (λ i. c)

-- no class stops before it starts, or beyond a limit
pub record Ascending (at : ℕ) (stops : List ℕ) (k limit : ℕ) : Type 0 where
  pub start : at ≤ limit
  pub up : (c : ℕ) → c < k → start_of at stops c ≤ get_or stops c 0
  pub end : (c : ℕ) → c < k → get_or stops c 0 ≤ limit

-- ---- memory for the work

-- vertices of a small game; a row of its rows is one word
abbrev pub small_vertices : ℕ
small_vertices = 64

-- arrays for the representatives, for rows, which are zeros, and for the places where the edges of each class stop
pub record Workspace (game reps words stops : List ℕ) : Type 0 where
  pub vertices_fit : vertex_count game ≤ length reps
  pub rows_fit : vertex_count game * words_for (vertex_count game) ≤ length words
  pub zeros : (i : ℕ) → get_or words i 0 ≡ 0
  pub stops_fit : vertex_count game ≤ length stops

-- ---- what is written once the game and the memory are judged

-- the classes and the table of K
pub record TableFilled (K : Game → Game) (game classes output : List ℕ) (counts : TableCounts) (classes' output' : List ℕ) : Type 0 where
  pub class_count_lem : counts.classes ≡ class_total game
  pub vertex_count_lem : counts.vertices ≡ (K (game_of game)).n
  pub edge_count_lem : counts.edges ≡ edge_count (K (game_of game))
  pub classes_after : classes' ≡ written (class_words game) classes
  pub output_after : output' ≡ written (class_table K game) output

-- and the order
pub record TableDone (K : Game → Game) (game marks spare classes output : List ℕ) (passes : ℕ) (counts : TableCounts) (marks' spare' classes' output' : List ℕ) : Type 0 where
  pub order : OrderDone game marks spare passes marks' spare'
  pub table : TableFilled K game classes output counts classes' output'
