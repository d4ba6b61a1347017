-- An accepted game has few classes, so the count fits its field.
use Rattle.abi_answer.specs.FieldsLaws.{governed_small}
use Rattle.abi_governed.proofs.raskjomi_governed_classes.Goals as goal

pub of_classification-requires : goal.of_classification-requires
of_classification-requires c = governed_small _ _ _ _ c.write_governed_classes.result _ _ _ c.write_governed_classes.ensures
