-- A row is at most 8 words, and at most one in a small game.
use Prim.Native.Nat.{◌≤◌}
use native.Mathlib.Nat.{mul-le-mul}
use native.Mathlib.Omega.{arith}
use Rattle.table.specs.Table.{vertex_count}
use Rattle.reduction_rows.specs.Reached.{words_for}
use Rattle.reduction.specs.Tables.{small_vertices}
use Rattle.reduction.proofs.tables.fill_table.Goals as goal

pub fill_sized-requires : goal.fill_sized-requires
fill_sized-requires c = let n = c.requires.well_formed.0.vertices in
    let w : words_for (vertex_count c.args.game.now) ≤ 8 = omega (arith, n) in
    record { well_formed = c.requires.well_formed; game_in_bounds = c.requires.game_in_bounds; arrays_fit = (n, mul-le-mul n w); sizes_bound = (omega arith, omega arith) }

pub fill_sized-requires-2 : goal.fill_sized-requires-2
fill_sized-requires-2 c = let n : vertex_count c.args.game.now ≤ small_vertices = omega arith in
    let w : words_for (vertex_count c.args.game.now) ≤ 1 = omega (arith, n) in
    record { well_formed = c.requires.well_formed; game_in_bounds = c.requires.game_in_bounds; arrays_fit = (n, mul-le-mul n w); sizes_bound = (omega arith, omega arith) }
