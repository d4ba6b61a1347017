-- The final table is within the limits, and so is the trace, so the counts fit their fields.
use Rattle.abi_answer.specs.FieldsLaws.{replaying_small}
use Rattle.abi_edit.proofs.raskjomi_replay.Goals as goal

pub of_replaying-requires : goal.of_replaying-requires
of_replaying-requires c = let r = c.replay in
    replaying_small _ _ _ _ _ r.result.verdict r.result.entries _ _ _ _ r.ensures
