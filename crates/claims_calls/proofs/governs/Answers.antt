-- The sentences follow from what the call promises.
use Rattle.claims.proofs.GovernedSentencesLaws as laws
use Rattle.claims_calls.proofs.governs.Goals as goal

pub returns : goal.returns
returns c = laws.governs c.write_governed.ensures
