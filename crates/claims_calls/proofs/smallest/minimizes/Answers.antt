-- The sentences follow from what the call promises.
use Rattle.claims.proofs.SmallestLaws as laws
use Rattle.claims_calls.proofs.smallest.minimizes.Goals as goal

pub returns : goal.returns
returns c = laws.minimizes c.write_reduced.ensures
