-- An accepted game has few classes, so the count fits its field.
use Rattle.abi_answer.specs.FieldsLaws.{classification_small}
use Rattle.abi.proofs.raskjomi_classes.Goals as goal

pub of_classification-requires : goal.of_classification-requires
of_classification-requires c = classification_small _ _ _ _ c.write_classes.result _ _ _ c.write_classes.ensures
