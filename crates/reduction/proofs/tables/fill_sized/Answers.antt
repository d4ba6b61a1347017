-- The arrays hold the representatives, the rows and the places.
use Prim.Native.Nat.{ℕ}
use lib.ListN.{length-replicate}
use Rattle.theory.proofs.Logic.ListLaws.{zeros}
use Rattle.reduction.proofs.tables.fill_sized.Goals as goal

pub fill_within-requires : goal.fill_within-requires
fill_within-requires g c = let f = c.requires.arrays_fit in
    let n = length-replicate {A = ℕ} g.row.N 0 in
    record {
      well_formed = c.requires.well_formed;
      game_in_bounds = c.requires.game_in_bounds;
      workspace = record { vertices_fit = rw n f.0; rows_fit = rw (length-replicate {A = ℕ} g.row.W 0) f.1; zeros = zeros g.row.W; stops_fit = rw n f.0 };
    }
