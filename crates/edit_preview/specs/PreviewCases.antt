-- What a preview answers beside the edit, in four cases that together are all: 1 to 8 refuse the first table; it is accepted, and 21 to 23 refuse;
-- it and these are passed, and the second table is too short for the first; all is long enough. A call is in exactly one of them, since they are
-- told apart by values that each call has.
use Rattle.std.specs.Prelude.{◌≡◌, Bool, true, false, List, [], ℕ, ltb, length}
use Rattle.table.specs.Table.{vertex_count, table_edges, table_length, table_in}
use Rattle.table.specs.Answers.{Answer, accepted, refused, judge, written}
use Rattle.classes.specs.ClassesCall.{memory_rows}
use Rattle.edit_rules.specs.Buffer.{buffer_rows}
use Rattle.edit_rules.specs.declared.Edit.{Edit}
use Rattle.edit.specs.EditCall.{EditCall}

-- the edit on this buffer, with the marks, spare and class words of the second set, has the same answer
abbrev pub AnsweredAs : Edit → List ℕ → ℕ → ℕ → List ℕ → List ℕ → List ℕ → Answer → Type 0
AnsweredAs e buffer s t marks spare classes answer =
    (answer₁ : Answer) (buffer₁ marks₁ spare₁ classes₁ : List ℕ) → EditCall e buffer s t marks spare classes answer₁ buffer₁ marks₁ spare₁ classes₁
    → answer ≡ answer₁

module _ (e : Edit) (game : List ℕ) (s t : ℕ) (table marks spare classes : List ℕ) (answer : Answer) (table' marks' spare' classes' : List ℕ) where
  -- refused, with all of the second set as it was
  abbrev pub RefusedOld : ℕ → ℕ → Type 0
  RefusedOld k p = (answer ≡ refused k p) × ((table' ≡ table) × (marks' ≡ marks) × (spare' ≡ spare) × (classes' ≡ classes))

  -- by what 1 to 8 of the first table say, what 21 to 23 say of the second set, and whether the second table is too short for the first
  unfoldable pub PreviewCase : Answer → Answer → Bool → Type 0
  PreviewCase (refused k p) memory short = RefusedOld k p × AnsweredAs e game s t marks spare classes answer
  -- the edit on whatever buffer the first table begins
  PreviewCase (accepted _) (refused k p) short =
      RefusedOld k p × ((buffer : List ℕ) → table_in buffer ≡ table_in game → AnsweredAs e buffer s t marks spare classes answer)
  PreviewCase (accepted _) (accepted _) true = RefusedOld 24 (table_length (vertex_count game) (table_edges game))
  -- the edit on the second table with the first laid over its start
  PreviewCase (accepted _) (accepted _) false = AnsweredAs e (written (table_in game) table) s t marks spare classes answer

  abbrev pub PreviewCases : Type 0
  PreviewCases =
      PreviewCase (judge (buffer_rows game) []) (judge (memory_rows (vertex_count game) (length marks) (length spare) (length classes)) [])
      (ltb (length table) (table_length (vertex_count game) (table_edges game)))
