-- The sentences follow from what the call promises.
use Rattle.verdict.proofs.VerdictsLaws as laws
use Rattle.claims_calls.proofs.gives_verdict.Goals as goal

pub returns : goal.returns
returns c = laws.verdicts c.give_verdict.ensures
