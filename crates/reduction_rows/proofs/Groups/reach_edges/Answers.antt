-- Invariant: the words hold the places of the edges before j.
use mathlib.Core.Path.{◌≡◌}
use native.Mathlib.Omega.{arith}
use Rattle.table.specs.Table.{table_edges}
use Rattle.reduction_rows.specs.ReachedLaws.{placed_none, placed_more, placed_reach}
use Rattle.reduction_rows.proofs.Groups.reach_edges.Goals as goal

pub loop-j-init : goal.loop-j-init
loop-j-init c = placed_none _ _ _ c.requires.by_index

pub reach_edge-requires : goal.reach_edge-requires
reach_edge-requires c =
    let g = c.requires.grouped in
    record { grouped = (g.0, record { wide = g.1.wide; long = omega (arith, c.loop-j.auto.words, g.1.long) }); j_bound = omega arith }

pub loop-j-preserved : goal.loop-j-preserved
loop-j-preserved c = placed_more _ _ c.loop-j.j _ _ c.loop-j.invariant c.reach_edge.ensures

pub returns : goal.returns
returns c = let l = c.loop-j in
    let e : l.j ≡ table_edges c.args.self.game.now = omega arith in
    placed_reach c.requires.grouped.0 _ c.requires.grouped.1.wide _ (rw e at l.invariant)
