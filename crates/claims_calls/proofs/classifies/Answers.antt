-- The sentences follow from what the call promises.
use Rattle.claims.proofs.SentencesLaws as laws
use Rattle.claims_calls.proofs.classifies.Goals as goal

pub returns : goal.returns
returns c = laws.classifies c.write_classes.ensures
