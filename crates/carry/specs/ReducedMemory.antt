-- What is known once the reduced game is written, and the rows that follow. No public promise cites these.
use Rattle.std.specs.Prelude.{◌≡◌, true, List, [], ◌∷◌, ◌++◌, ℕ, ◌≤◌, length, take}
use Rattle.theory.specs.Order.Order.{order}
use Rattle.theory.specs.Classes.Reduction.{reduced}
use Rattle.table.specs.Table.{table_length, game_of}
use Rattle.table.specs.Answers.{Row}
use Rattle.table.specs.WellFormed.{WellFormed}
use Rattle.classes.specs.Numbering.{Classed, Ordered}
use Rattle.reduction.specs.TableCall.{table_counts, class_table}
use Rattle.reduction.specs.declared.TableCounts.{TableCounts}
use Rattle.plan.specs.Acceptance.{plan_rows}
use Rattle.carry_output.specs.CarryParts.{arrival_rows}

-- the reduced game's table in memory, beside marks that hold the order, and class words
pub record ReducedHeld (game marks classes reduction : List ℕ) (counts : TableCounts) : Type 0 where
  pub well : WellFormed game
  pub ordered : Ordered (game_of game) marks
  pub classed : Classed (game_of game).n (order (game_of game)) classes
  pub totals : counts.classes ∷ counts.vertices ∷ counts.edges ∷ [] ≡ table_counts reduced game
  pub long : table_length counts.vertices counts.edges ≤ length reduction
  pub table : take (table_length counts.vertices counts.edges) reduction ≡ class_table reduced game

-- 11 to 16 about the reduced game, then 33 to 35
abbrev pub reduced_rows : List ℕ → ℕ → List ℕ → ℕ → List ℕ → List Row
reduced_rows game player plan y output = plan_rows (class_table reduced game) player plan ++ arrival_rows true game player plan y output
