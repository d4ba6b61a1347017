-- The fresh array has a flag of 1 for each vertex; what `clear_sources` leaves is searched for the first 1.
use mathlib.Core.Path.{◌∙◌}
use Prim.Native.Nat.{◌≤◌}
use native.Mathlib.Omega.{arith}
use Rattle.table.specs.Limits.{vertex_limit}
use Rattle.table.specs.Table.{vertex_count}
use Rattle.table.specs.FlagsLaws.{filled, lacking_first}
use Rattle.table.proofs.searches.first_lacking.Goals as goal

pub clear_sources-requires : goal.clear_sources-requires
clear_sources-requires c = let p = c.requires in record { sized = p; n_in_bounds = (p.0.few_vertices, filled vertex_limit 1) }

pub returns : goal.returns
returns c = let few : vertex_count c.args.game.now ≤ vertex_limit = omega (arith, c.requires.0) in
    c.first_at_least.ensures ∙ rw (c.clear_sources.ensures, c.requires.0.vertices) (lacking_first c.args.game.now vertex_limit few)
