-- The sentences follow from what the call promises.
use Rattle.claims_winners.proofs.WinnersLaws as laws
use Rattle.claims.specs.Demands.{quotient_faithful}
use Rattle.claims_winners.proofs.quotients.Goals as goal

pub returns : goal.returns
returns c = laws.table_decides quotient_faithful c.write_quotient.ensures
