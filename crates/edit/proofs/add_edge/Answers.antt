-- The reader's refusal is handed on; the rest is `edit_table`'s.
use Rattle.edit.proofs.EditCallLaws.{formed, call_handed}
use Rattle.edit.proofs.add_edge.Goals as goal

pub returns-in_default : goal.returns-in_default
returns-in_default c = call_handed _ _ _ _ _ _ _ _ _ _ _ _ c.in_default.is c.read_in-reading.ensures c.refusal_of.ensures

pub edit_table-requires : goal.edit_table-requires
edit_table-requires c = formed c.args.buffer.now c.in-Ok.is c.read_in-reading.ensures
