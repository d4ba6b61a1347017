-- The sentences follow from what the call promises.
use Rattle.claims.proofs.SentencesLaws as laws
use Rattle.claims.specs.Demands.{quotient_faithful}
use Rattle.claims_calls.proofs.quotients.Goals as goal

pub returns : goal.returns
returns c = laws.tabulates quotient_faithful c.write_quotient.ensures
