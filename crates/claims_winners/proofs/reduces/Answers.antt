-- The sentences follow from what the call promises.
use Rattle.claims_winners.proofs.WinnersLaws as laws
use Rattle.claims.specs.Demands.{reduced_faithful}
use Rattle.claims_winners.proofs.reduces.Goals as goal

pub returns : goal.returns
returns c = laws.table_decides reduced_faithful c.write_reduced.ensures
