-- The library's promise.
use Rattle.abi.proofs.raskjomi_kind.Goals as goal

pub returns : goal.returns
returns c = c.kind.ensures
