-- What an accepted call has written, as the statements of `Demands` and `Sentences` name it.
use Rattle.std.specs.Prelude.{◌≡◌, ◌↔◌, List, ℕ, ◌≤◌, ◌<◌, take}
use Rattle.theory.specs.Games.Game.{Player, Game, Total, edge_count}
use Rattle.theory.specs.Plans.Plan.{Won}
use Rattle.theory.specs.Classes.Reduction.{class_of}
use Rattle.table.specs.Table.{table_length}
use Rattle.table.specs.Answers.{Row, after}
use Rattle.order.specs.OrderCall.{order_bytes}
use Rattle.classes.specs.ClassesCall.{class_words}

-- a call leaves the order in a buffer that was old before it and is new after it: once these rows of its table of refusals are passed, the
-- order stands there, with old content beyond; a call refused by one of them writes none
pub record LeavesOrder (game : List ℕ) (rows : List Row) (old new : List ℕ) : Type 0 where
  pub buffer : new ≡ after rows (order_bytes game) old

-- likewise the class of each vertex, in class words
pub record LeavesClasses (game : List ℕ) (rows : List Row) (old new : List ℕ) : Type 0 where
  pub words : new ≡ after rows (class_words game) old

-- the written table: as many words of the output as the verdict's counts, n vertices and e edges, tell
abbrev pub written_table : ℕ → ℕ → List ℕ → List ℕ
written_table n e output = take (table_length n e) output

-- what the quotient and the reduced game share, as functions K of the game
pub record Faithful (K : Game → Game) : Type 0 where
  pub total : (g : Game) → Total g → Total (K g)
  pub size : (g : Game) → (K g).n ≤ g.n
  pub edges : (g : Game) → edge_count (K g) ≤ edge_count g
  pub class : (g : Game) (v : ℕ) → v < g.n → class_of g v < (K g).n
  pub winner : (g : Game) (a : Player) (v : ℕ) → v < g.n → Won a g v ↔ Won a (K g) (class_of g v)
