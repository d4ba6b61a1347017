-- A seeded table is within the limits, so its counts fit their fields.
use Rattle.abi_answer.specs.FieldsLaws.{seeding_small}
use Rattle.abi.proofs.raskjomi_seed.Goals as goal

pub of_filling-requires : goal.of_filling-requires
of_filling-requires c = seeding_small _ _ _ _ _ c.write_seeded.result _ c.write_seeded.ensures
