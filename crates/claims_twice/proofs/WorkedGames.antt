-- The reduced game of game D of `claims`, reduced again: whatever the second call finds in its buffers, where they are long enough for 5 vertices
-- and 6 edges it writes the same table.
use Rattle.std.specs.Prelude.{◌≡◌, refl, List, [], ◌∷◌, ℕ}
use Rattle.theory.specs.Classes.Reduction.{reduced}
use Rattle.table.specs.Answers.{Row, accepted, judge, after}
use Rattle.order.specs.OrderCall.{order_bytes}
use Rattle.classes.specs.ClassesCall.{class_words}
use Rattle.reduction.specs.TableCall.{table_rows, table_counts, class_table, TableCall}
use Rattle.claims.specs.WrittenMemory.{written_table}
use Rattle.claims.proofs.WorkedGames.{call_d}
use Rattle.claims_twice.specs.ReducedTwice.{SecondFits}
use Rattle.claims_twice.proofs.ReducedTwiceLaws.{accepts_again, same_again}

-- the table that the first call writes: 5 vertices and 6 edges
abbrev table_d : List ℕ
table_d = 5 ∷ 6 ∷ 2 ∷ 0 ∷ 0 ∷ 1 ∷ 4 ∷ 0 ∷ 0 ∷ 0 ∷ 0 ∷ 0 ∷ 0 ∷ 1 ∷ 2 ∷ 2 ∷ 3 ∷ 4 ∷ 2 ∷ 3 ∷ 3 ∷ 4 ∷ 3 ∷ 4 ∷ []

module _ (marks spare classes output : List ℕ) where
  abbrev rows : List Row
  rows = table_rows table_d marks spare classes output

  call_again : TableCall reduced table_d marks spare classes output (judge rows (table_counts reduced table_d))
      (after rows (order_bytes table_d) marks) (after rows (order_bytes table_d) spare) (after rows (class_words table_d) classes)
      (after rows (class_table reduced table_d) output)
  call_again = record { verdict = refl; marks_after = refl; spare_after = refl; classes_after = refl; output_after = refl }

  module _ (fits : SecondFits 5 6 marks spare classes output) where
    pub again_counts : judge rows (table_counts reduced table_d) ≡ accepted (5 ∷ 5 ∷ 6 ∷ [])
    again_counts = accepts_again call_d 5 5 6 refl call_again fits

    pub again_table : written_table 5 6 (after rows (class_table reduced table_d) output) ≡ table_d
    again_table = (same_again call_d 5 5 6 refl call_again _ again_counts).table
