-- The reader's refusal is handed on; the rest is `preview_table`'s.
use Rattle.edit.proofs.EditCallLaws.{formed, call_handed}
use Rattle.edit_preview.proofs.preview_add.Goals as goal

pub returns-in_default : goal.returns-in_default
returns-in_default c = call_handed _ _ _ _ _ _ _ _ _ _ _ _ c.in_default.is c.read_in-reading.ensures c.refusal_of.ensures

pub preview_table-requires : goal.preview_table-requires
preview_table-requires c = formed c.args.game.now c.in-Ok.is c.read_in-reading.ensures
