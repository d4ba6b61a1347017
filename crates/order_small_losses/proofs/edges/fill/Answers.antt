-- Odd's vertices are those whose owner word isn't 0; their word is stored behind the words of the edges, which stay as they were.
use Rattle.order_sets.specs.EdgesLaws.{edges_end}
use Rattle.order_small_losses.specs.EdgeWordsLaws.{word_put, word_differs}
use Rattle.std.proofs.Common.{rules}
use Rattle.order_small_losses.proofs.edges.fill.Goals as goal

pub returns : goal.returns
returns c = edges_end _ _ _ _ _ c.requires.well_formed.0 c.requires.well_formed.1 c.add_edges.ensures
    (word_differs _ _ _ _ _ c.differing_word.ensures) (word_put _ _ _ (search rules))
