-- The sentences follow from what the call promises.
use Rattle.claims.proofs.SentencesLaws as laws
use Rattle.claims_calls.proofs.orders.Goals as goal

pub returns : goal.returns
returns c = laws.orders c.write_order.ensures
