-- A plan that is carried is within the limits, so its counts fit their fields.
use Rattle.abi_answer.specs.FieldsLaws.{carrying_small}
use Rattle.abi_carry.proofs.raskjomi_carry.Goals as goal

pub of_carrying-requires : goal.of_carrying-requires
of_carrying-requires c = carrying_small _ _ _ _ _ _ _ c.carry_plan.result _ _ _ c.carry_plan.ensures
