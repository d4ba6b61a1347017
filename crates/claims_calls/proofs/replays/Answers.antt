-- The sentences follow from what the call promises.
use Rattle.claims.proofs.SentencesLaws as laws
use Rattle.claims_calls.proofs.replays.Goals as goal

pub returns : goal.returns
returns c = laws.replays c.replay.ensures
