-- Invariant: the pairs of sources below v are linked.
use Rattle.edit_links.specs.LinksLaws.{filled_with}
use Rattle.edit_links.proofs.link_rows.Goals as goal

pub link_row-requires-clause-by_index : goal.link_row-requires-clause-by_index
link_row-requires-clause-by_index c = (filled_with _ _ _ _ c.fill.ensures, c.requires.pairs.1)
