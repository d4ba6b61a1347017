-- The edges of a well-formed game are indexed, over zeros.
use native.Mathlib.Omega.{arith}
use Prim.Native.Nat.{◌+◌}
use Rattle.theory.proofs.Logic.ListLaws.{zeros}
use Rattle.table.specs.Limits.{vertex_limit}
use Rattle.plan.proofs.answers.first_lacking.Goals as goal

pub of_edges-requires : goal.of_edges-requires
of_edges-requires c = let well = c.requires.words_pass.game in
    record { well_formed = well; game_in_bounds = (omega (arith, well.vertices), well.edges); by_index = zeros (vertex_limit + 1) }

pub first_lacking_by-requires : goal.first_lacking_by-requires
first_lacking_by-requires c = record { lack_space = record { pass = c.requires.words_pass; links = c.requires.link_index; edges = c.of_edges.ensures; room = omega arith }; by_index = zeros vertex_limit }

pub returns : goal.returns
returns c = c.first_lacking_by.ensures
