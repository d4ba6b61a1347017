-- The words from `start` to `end` are that part.
use Rattle.carry_search.specs.Work.{part}
use Rattle.carry_output.proofs.output.copy_part.Goals as goal

pub returns : goal.returns
unfolding part
returns c = c.copy.ensures
