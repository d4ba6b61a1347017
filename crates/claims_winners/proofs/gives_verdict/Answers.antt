-- The sentences follow from what the call promises.
use Rattle.claims_winners.proofs.WinnersLaws as laws
use Rattle.claims_winners.proofs.gives_verdict.Goals as goal

pub returns : goal.returns
returns c = laws.verdict_decides c.give_verdict.ensures
