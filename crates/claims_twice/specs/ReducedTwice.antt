-- The reduced game reduced again, about the words of two calls in a row: the second reduces the table that the first wrote, in a second set of
-- buffers.
use Rattle.std.specs.Prelude.{◌≡◌, ◌↔◌, List, [], ◌∷◌, ℕ, ◌≤◌, ◌<◌, length, get_or}
use Rattle.theory.specs.Classes.Reduction.{reduced}
use Rattle.table.specs.Table.{vertex_count, table_length}
use Rattle.table.specs.Answers.{Answer, accepted, refused}
use Rattle.marks.specs.Marks.{marks_length, Marked}
use Rattle.reduction.specs.TableCall.{tabulation_answer, TableCall}
use Rattle.claims.specs.WrittenMemory.{written_table}
use Rattle.claims.specs.Sentences.{OnAcceptance}
use Rattle.claims_twice.specs.declared.Twice.{Twice}

-- the second set is long enough for a table of n vertices and e edges: rows 21 to 24
pub record SecondFits (n e : ℕ) (marks spare classes output : List ℕ) : Type 0 where
  pub marks_fit : marks_length n ≤ length marks
  pub spare_fit : marks_length n ≤ length spare
  pub classes_fit : n ≤ length classes
  pub output_fit : table_length n e ≤ length output

-- Of what the two calls leave: the first, which accepted with n vertices and e edges, its marks, classes and output; the second, which accepted,
-- likewise, as `marks₂` and so on.
pub record SameAgain (game marks classes output : List ℕ) (n e : ℕ) (answer₂ : Answer) (marks₂ classes₂ output₂ : List ℕ) : Type 0 where
  -- the same counts, and the same table, word for word
  pub counts : answer₂ ≡ accepted (n ∷ n ∷ e ∷ [])
  pub table : written_table n e output₂ ≡ written_table n e output
  -- each vertex is its own class
  pub own : (c : ℕ) → c < n → get_or classes₂ c 0 ≡ c
  -- no two are below each other, and the classes of two vertices compare as these did
  pub apart : (c d : ℕ) → c < n → d < n → Marked n marks₂ c d → Marked n marks₂ d c → c ≡ d
  pub compares : (v w : ℕ) → v < vertex_count game → w < vertex_count game
      → Marked n marks₂ (get_or classes v 0) (get_or classes w 0) ↔ Marked (vertex_count game) marks v w

-- Two calls in a row. A refusal of the first ends it: it stands for both, and the second set is as it was.
pub record ReducesTwice (game marks spare classes output marks₂ spare₂ classes₂ output₂ : List ℕ) (r : Twice)
    (marks' spare' classes' output' marks₂' spare₂' classes₂' output₂' : List ℕ) : Type 0 where
  pub first : TableCall reduced game marks spare classes output (tabulation_answer r.first) marks' spare' classes' output'
  pub refused : (k p : ℕ) → tabulation_answer r.first ≡ refused k p
      → (tabulation_answer r.second ≡ refused k p) × (marks₂' ≡ marks₂) × (spare₂' ≡ spare₂) × (classes₂' ≡ classes₂) × (output₂' ≡ output₂)
  pub second : (k n e : ℕ) → tabulation_answer r.first ≡ accepted (k ∷ n ∷ e ∷ [])
      → TableCall reduced (written_table n e output') marks₂ spare₂ classes₂ output₂ (tabulation_answer r.second) marks₂' spare₂' classes₂' output₂'
  -- where its buffers are long enough the second accepts, and where it accepts nothing is new
  pub accepts : (k n e : ℕ) → tabulation_answer r.first ≡ accepted (k ∷ n ∷ e ∷ []) → SecondFits n e marks₂ spare₂ classes₂ output₂
      → tabulation_answer r.second ≡ accepted (n ∷ n ∷ e ∷ [])
  pub same : (k n e : ℕ) → tabulation_answer r.first ≡ accepted (k ∷ n ∷ e ∷ [])
      → OnAcceptance (tabulation_answer r.second) (SameAgain game marks' classes' output' n e (tabulation_answer r.second) marks₂' classes₂' output₂')
