-- The sentences follow from what the call promises.
use Rattle.claims.proofs.SentencesLaws as laws
use Rattle.claims_calls.proofs.adds.Goals as goal

pub returns : goal.returns
returns c = laws.edits c.add_edge.ensures
