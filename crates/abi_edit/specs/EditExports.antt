-- The promises of the exports that edit a table, preview an edit or replay a trace: the library's answer, its fields, and the library's promise.
use Rattle.std.specs.Prelude.{◌≡◌, List, ℕ}
use Rattle.table.specs.Answers.{Answer}
use Rattle.edit_rules.specs.declared.Edit.{Edit}
use Rattle.edit.specs.EditCall.{EditCall}
use Rattle.edit_preview.specs.PreviewCall.{PreviewCall}
use Rattle.edit_replay.specs.ReplayCall.{ReplayCall}
use Rattle.abi_answer.specs.Fields.{table_fields, replay_fields}
use Rattle.abi_answer.specs.declared.RaskjomiAnswer.{RaskjomiAnswer}

pub record EditExport (e : Edit) (table : List ℕ) (source target : ℕ) (marks spare classes : List ℕ) (r : RaskjomiAnswer)
    (table' marks' spare' classes' : List ℕ) : Type 0 where
  pub answer : Answer
  pub fields : r ≡ table_fields answer
  pub call : EditCall e table source target marks spare classes answer table' marks' spare' classes'

pub record PreviewExport (e : Edit) (game : List ℕ) (source target : ℕ) (table marks spare classes : List ℕ) (r : RaskjomiAnswer)
    (table' marks' spare' classes' : List ℕ) : Type 0 where
  pub answer : Answer
  pub fields : r ≡ table_fields answer
  pub call : PreviewCall e game source target table marks spare classes answer table' marks' spare' classes'

pub record ReplayExport (table trace marks spare classes : List ℕ) (r : RaskjomiAnswer) (table' marks' spare' classes' : List ℕ) : Type 0 where
  pub answer : Answer
  pub entries : ℕ
  pub fields : r ≡ replay_fields answer entries
  pub call : ReplayCall table trace marks spare classes answer entries table' marks' spare' classes'
