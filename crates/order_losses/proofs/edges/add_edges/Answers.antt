-- The first j edges are in the rows, both ways. Their ends are below the limit, so the rows of successors and of predecessors do not overlap.
use Rattle.std.specs.Prelude.{List, ℕ}
use Rattle.table.specs.WellFormed.{WellFormed}
use Rattle.table.specs.Table.{table_edges, source_at, target_at}
use Rattle.order_rows.specs.Bits.{row_bits}
use mathlib.Core.Path.{refl, ◌∙◌}
use Prim.Native.Nat.{◌<◌}
use native.Mathlib.Omega.{arith}
use Rattle.order_sets.specs.EdgesLaws.{edges_start, edges_next}
use Rattle.order_losses.proofs.edges.add_edges.Goals as goal

-- the ends of edge j
ends : {g : List ℕ} {j : ℕ} → WellFormed g → j < table_edges g → (source_at g j < row_bits) × (target_at g j < row_bits)
ends {j = j} well t = (omega (arith, well.sources j t, well.vertices), omega (arith, well.targets j t, well.vertices))

pub loop-j-init : goal.loop-j-init
loop-j-init c = (refl, edges_start row_bits _ _ c.requires.by_index)

pub loop-j-preserved : goal.loop-j-preserved
loop-j-preserved c = let t = ends c.requires.well_formed c.loop-j-test.true in (
  c.add-in-loop-j.auto.words ∙ c.add.auto.words ∙ c.loop-j.invariant.0,
  edges_next row_bits _ c.loop-j.j _ _ _ t.0 t.1 c.loop-j.invariant.1 c.add.ensures c.add-in-loop-j.ensures,
)
