-- One behind the other.
use Rattle.edit_run.specs.GatheredLaws.{joined}
use Rattle.edit_run.proofs.join.Goals as goal

pub returns : goal.returns
returns c = joined _ _ _ _ _ _ _ c.requires.2 c.copy.ensures c.copy-2.ensures
