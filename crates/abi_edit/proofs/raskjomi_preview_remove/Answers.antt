-- The new table is within the limits, so its counts fit their fields.
use Rattle.abi_answer.specs.FieldsLaws.{previewing_small}
use Rattle.abi_edit.proofs.raskjomi_preview_remove.Goals as goal

pub of_tabulation-requires : goal.of_tabulation-requires
of_tabulation-requires c = let r = c.preview_remove in
    previewing_small _ _ _ _ _ _ _ _ r.result _ _ _ _ r.ensures
