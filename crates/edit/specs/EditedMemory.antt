-- What an edit leaves once the table, the memory and the edit are judged. No public promise cites this.
use Rattle.std.specs.Prelude.{◌≡◌, List, ℕ}
use Rattle.table.specs.Table.{vertex_count, table_in}
use Rattle.classes.specs.NumberedMemory.{ClassesDone}
use Rattle.reduction.specs.declared.TableCounts.{TableCounts}
use Rattle.edit_rules.specs.Edges.{edited}
use Rattle.edit_rules.specs.EditParts.{Made}
use Rattle.edit_rules.specs.declared.Edit.{Edit}

pub record EditDone (e : Edit) (buffer : List ℕ) (s t : ℕ) (marks spare classes : List ℕ) (counts : TableCounts)
    (buffer' marks' spare' classes' : List ℕ) : Type 0 where
  pub made : Made e buffer s t counts.edges buffer'
  pub vertices : counts.vertices ≡ vertex_count (edited e (table_in buffer) s t)
  pub memory : ClassesDone (edited e (table_in buffer) s t) marks spare classes counts.classes marks' spare' classes'
