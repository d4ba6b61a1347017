-- The reader's refusal is handed on; the rest is `replay_table`'s.
use Rattle.edit.proofs.EditCallLaws.{formed}
use Rattle.edit_replay.proofs.ReplayCallLaws.{start_handed}
use Rattle.edit_replay.proofs.replay.Goals as goal

pub returns-in_default : goal.returns-in_default
returns-in_default c = start_handed _ _ _ _ _ _ _ _ c.in_default.is c.read_in-reading.ensures c.refusal_of.ensures

pub replay_table-requires : goal.replay_table-requires
replay_table-requires c = formed c.args.buffer.now c.in-Ok.is c.read_in-reading.ensures
