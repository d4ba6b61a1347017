-- The sentences follow from what the call promises.
use Rattle.claims.proofs.GovernedSentencesLaws as laws
use Rattle.claims_calls.proofs.governs_classes.Goals as goal

pub returns : goal.returns
returns c = laws.governs_classes c.write_governed_classes.ensures
