-- The words of the part, put behind the others.
use Rattle.edit_rules.proofs.SearchLaws.{part_listed}
use Rattle.edit_rules.proofs.listing.list_part.Goals as goal

pub returns : goal.returns
returns c = part_listed c.requires.formed.0 _ _ c.requires.formed.1 c.requires.formed.2 _ _ _ _ _ c.copy.ensures c.copy-2.ensures
