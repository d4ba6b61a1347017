-- The reduced game is no larger than the game, and a plan that is carried is within the limits, so the counts fit their fields.
use Rattle.abi_answer.specs.FieldsLaws.{class_carrying_small}
use Rattle.abi_carry.proofs.raskjomi_carry_class.Goals as goal

pub of_class_carrying-requires : goal.of_class_carrying-requires
of_class_carrying-requires c = class_carrying_small _ _ _ _ _ _ _ _ _ c.carry_class_plan.result _ _ _ _ _ c.carry_class_plan.ensures
