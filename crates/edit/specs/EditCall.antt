-- The calls that edit a table: change request 7, with its table of refusals.
use Rattle.std.specs.Prelude.{◌≡◌, List, [], ◌∷◌, ◌++◌, ℕ, length}
use Rattle.table.specs.Table.{vertex_count, table_edges, table_in}
use Rattle.table.specs.Answers.{Row, Answer, judge, after}
use Rattle.order.specs.OrderCall.{order_bytes}
use Rattle.classes.specs.ClassesCall.{memory_rows, class_total, class_words}
use Rattle.edit_rules.specs.Buffer.{buffer_rows}
use Rattle.edit_rules.specs.Edges.{edited, edited_words, edit_rows}
use Rattle.edit_rules.specs.declared.Edit.{Edit}

-- 1 to 8, where 4 means "shorter"; 21 to 23; 37 to 39
abbrev pub call_rows : Edit → List ℕ → ℕ → ℕ → List ℕ → List ℕ → List ℕ → List Row
call_rows e buffer s t marks spare classes =
    buffer_rows buffer
    ++ (memory_rows (vertex_count buffer) (length marks) (length spare) (length classes) ++ edit_rows e (table_in buffer) (length buffer) s t)

-- accepted with the class count, n and the new m
unfoldable pub call_counts : List ℕ → List ℕ
call_counts new = class_total new ∷ vertex_count new ∷ table_edges new ∷ []

-- The promise of a call that edits the table g in a buffer, with its table of refusals: the verdict, and every lent word. "The order, spare and
-- classes afterwards equal those worked out afresh from the new table, whatever was in these buffers before."
pub record EditedBy (rows : List Row) (e : Edit) (g : List ℕ) (s t : ℕ) (buffer marks spare classes : List ℕ) (answer : Answer)
    (buffer' marks' spare' classes' : List ℕ) : Type 0 where
  pub verdict : answer ≡ judge rows (call_counts (edited e g s t))
  pub buffer_after : buffer' ≡ after rows (edited_words e g s t) buffer
  pub marks_after : marks' ≡ after rows (order_bytes (edited e g s t)) marks
  pub spare_after : spare' ≡ after rows (order_bytes (edited e g s t)) spare
  pub classes_after : classes' ≡ after rows (class_words (edited e g s t)) classes

-- the calls of change request 7: the table begins the buffer that the edit is made in
abbrev pub EditCall : Edit → List ℕ → ℕ → ℕ → List ℕ → List ℕ → List ℕ → Answer → List ℕ → List ℕ → List ℕ → List ℕ → Type 0
EditCall e buffer s t marks spare classes =
    EditedBy (call_rows e buffer s t marks spare classes) e (table_in buffer) s t buffer marks spare classes
