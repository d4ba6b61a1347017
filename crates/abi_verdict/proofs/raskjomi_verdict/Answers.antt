-- The reduced game is within the limits, so the counts fit their fields.
use Rattle.abi_verdict.specs.VerdictExportLaws.{verdict_small}
use Rattle.abi_verdict.proofs.raskjomi_verdict.Goals as goal

pub of_verdict-requires : goal.of_verdict-requires
of_verdict-requires c = let r = c.give_verdict in
    verdict_small _ _ _ _ _ _ _ _ _ _ _ _ r.result r.ensures
