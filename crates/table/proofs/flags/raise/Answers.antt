-- One bit of one word is set, and flag i alone is at that bit.
use Rattle.words.specs.WordsLaws.{has_set}
use Rattle.table.proofs.flags.raise.Goals as goal

pub returns : goal.returns
returns c = has_set _ _ _ c.requires c.with.ensures
