-- The sentences follow from what the call promises.
use Rattle.claims_winners.proofs.WinnersLaws as laws
use Rattle.claims_winners.proofs.carries_class.Goals as goal

pub returns : goal.returns
returns c = laws.carry_decides c.carry_class_plan.ensures
