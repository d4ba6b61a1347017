-- Odd's vertices are those whose owner word isn't 0; their row is put behind the rows of the edges, which stay as they were.
use Rattle.order_sets.specs.EdgesLaws.{edges_end}
use Rattle.order_rows.specs.Bits.{row_bits}
use Rattle.order_losses.proofs.edges.fill.Goals as goal

pub returns : goal.returns
returns c = edges_end row_bits _ _ _ _ c.requires.well_formed c.requires.well_formed.vertices c.add_edges.ensures c.differing.ensures c.put.ensures
