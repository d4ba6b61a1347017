-- The sentences follow from what the call promises.
use Rattle.claims.proofs.SentencesLaws as laws
use Rattle.claims_calls.proofs.previews_remove.Goals as goal

pub returns : goal.returns
returns c = laws.previews _ c.preview_remove.ensures
