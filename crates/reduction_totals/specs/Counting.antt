-- What the code that counts assumes and promises.
use Rattle.std.specs.Prelude.{◌≡◌, List, ℕ}
use Rattle.theory.specs.Classes.Reduction.{reduced}
use Rattle.table.specs.Answers.{written}
use Rattle.table.specs.WellFormed.{WellFormed}
use Rattle.classes.specs.ClassesCall.{class_words}
use Rattle.reduction.specs.TableCall.{class_table}
use Rattle.reduction_totals.specs.Totals.{member_words, edge_words, member_total, edge_total}
use Rattle.reduction_totals.specs.declared.Totals.{Totals}

-- the classes of a well-formed table begin the class words, and the table of its reduced game the other words
pub record Tabulated (game classes table : List ℕ) : Type 0 where
  pub well : WellFormed game
  pub old_classes : List ℕ
  pub classes_are : classes ≡ written (class_words game) old_classes
  pub old_table : List ℕ
  pub table_is : table ≡ written (class_table reduced game) old_table

-- both sums, and a word for each class in both buffers
pub record Totalled (game members edges : List ℕ) (totals : Totals) (members' edges' : List ℕ) : Type 0 where
  pub member_total_lem : totals.members ≡ member_total game
  pub edge_total_lem : totals.edges ≡ edge_total game
  pub members_after : members' ≡ written (member_words game) members
  pub edges_after_lem : edges' ≡ written (edge_words game) edges
