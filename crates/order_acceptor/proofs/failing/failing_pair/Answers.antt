-- The arrays hold the index of any well-formed table.
use native.Mathlib.Omega.{arith}
use Prim.Native.Nat.{◌+◌}
use Rattle.theory.proofs.Logic.ListLaws.{zeros}
use Rattle.table.specs.Limits.{vertex_limit}
use Rattle.order_acceptor.proofs.failing.failing_pair.Goals as goal

pub of_edges-requires : goal.of_edges-requires
of_edges-requires c = let p = c.requires in record { well_formed = p.well_formed; game_in_bounds = (omega arith, p.well_formed.edges); by_index = zeros (vertex_limit + 1) }
