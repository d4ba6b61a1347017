-- A converted table is within the limits, so its counts fit their fields.
use Rattle.abi_answer.specs.FieldsLaws.{converting_small}
use Rattle.abi.proofs.raskjomi_convert.Goals as goal

pub of_filling-requires : goal.of_filling-requires
of_filling-requires c = converting_small _ _ c.write_lowest.result _ c.write_lowest.ensures
