-- The sentences follow from what the call promises.
use Rattle.claims.proofs.SentencesLaws as laws
use Rattle.claims_calls.proofs.removes.Goals as goal

pub returns : goal.returns
returns c = laws.edits c.remove_edge.ensures
