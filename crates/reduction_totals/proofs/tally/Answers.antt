-- The local array holds a count for as many classes as there can be vertices.
use mathlib.Core.Path.{◌∙◌}
use Rattle.theory.proofs.Logic.ListLaws.{zeros, tabulate_ext}
use Rattle.table.specs.Limits.{vertex_limit}
use Rattle.table.specs.PlacingLaws.{placed_written}
use Rattle.reduction_totals.proofs.tally.Goals as goal

pub count_sources-requires : goal.count_sources-requires
count_sources-requires c = let p = c.requires in record { column = p.column; n_in_bounds = p.k_le_vertex_limit.0; by_index = zeros vertex_limit }

pub returns : goal.returns
returns c = c.copy.ensures
    ∙ placed_written _ _
    ∙ rw (tabulate_ext c.args.k _ _ (λ i h. c.count_sources.ensures i))
