-- The sentence follows from what the two calls promise.
use Rattle.claims.proofs.SentencesLaws as laws
use Rattle.claims_calls.proofs.contains.Goals as goal

pub returns : goal.returns
returns c = laws.contains c.accept_relation-judged.ensures c.write_order-written.ensures
