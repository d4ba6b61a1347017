-- The order, or another relation, as the calls that leave it write it.
use Rattle.std.specs.Prelude.{◌≡◌, List, ℕ}
use Rattle.theory.specs.Order.Passes.{Marks}
use Rattle.theory.specs.Games.Game.{Game}
use Rattle.theory.specs.Order.Order.{order_marks, order_passes}
use Rattle.table.specs.Table.{game_of}
use Rattle.table.specs.Answers.{written}
use Rattle.order.specs.OrderCall.{bytes_of}

-- the number of passes, and a buffer holds the relation's marks
pub record MarksFilled (relation : Game → Marks) (passes : Game → ℕ) (game marks : List ℕ) (c : ℕ) (marks' : List ℕ) : Type 0 where
  pub count : c ≡ passes (game_of game)
  pub marks_after : marks' ≡ written (bytes_of relation game) marks

-- the number of passes, and both buffers hold the relation's marks
pub record MarksDone (relation : Game → Marks) (passes : Game → ℕ) (game marks spare : List ℕ) (c : ℕ) (marks' spare' : List ℕ) : Type 0 where
  pub count : c ≡ passes (game_of game)
  pub marks_after : marks' ≡ written (bytes_of relation game) marks
  pub spare_after : spare' ≡ written (bytes_of relation game) spare

abbrev pub OrderDone : List ℕ → List ℕ → List ℕ → ℕ → List ℕ → List ℕ → Type 0
OrderDone = MarksDone order_marks order_passes
