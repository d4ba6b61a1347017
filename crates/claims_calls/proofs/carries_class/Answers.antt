-- The sentences follow from what the call promises.
use Rattle.claims.proofs.SentencesLaws as laws
use Rattle.claims_calls.proofs.carries_class.Goals as goal

pub returns : goal.returns
returns c = laws.carries_class c.carry_class_plan.ensures
