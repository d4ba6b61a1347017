-- The sentences follow from what the call promises.
use Rattle.claims.proofs.SentencesLaws as laws
use Rattle.claims.specs.Demands.{reduced_faithful}
use Rattle.claims_calls.proofs.reduces.Goals as goal

pub returns : goal.returns
returns c = laws.tabulates reduced_faithful c.write_reduced.ensures
