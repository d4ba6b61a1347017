-- The rows hold what every member of a class reaches, and the classes are listed by them.
use mathlib.Core.Path.{◌≡◌, ap}
use mathlib.Core.List.{List}
use Prim.Native.Nat.{ℕ, ◌*◌, ◌≤◌}
use native.Mathlib.Omega.{arith}
use lib.ListN.{length}
use Rattle.table.specs.Table.{vertex_count}
use Rattle.reduction_rows.specs.Reached.{words_for, RowsFit}
use Rattle.reduction_edges.proofs.listing.list_edges.Goals as goal

pub bounds-game-0 : goal.bounds-game-0
bounds-game-0 c = omega (arith, c.requires.prepared.grouped.well.size)

pub words_for-width-requires : goal.words_for-width-requires
words_for-width-requires c = c.requires.prepared.grouped.well.vertices

fits : {game words : List ℕ} {width : ℕ} → width ≡ words_for (vertex_count game) → vertex_count game * words_for (vertex_count game) ≤ length words → RowsFit game width words
fits {game = game} w h = record { wide = w; long = omega (arith, ap (λ (x : ℕ). vertex_count game * x) w, h) }

pub reach_rows-requires : goal.reach_rows-requires
reach_rows-requires c =
    let b = c.requires.game_in_bounds in
    record { grouped = (c.requires.prepared.grouped, fits c.words_for-width.ensures b.0); by_index = b.1 }

-- the rows are those of the game
pub invariant_of-source : goal.invariant_of-source
invariant_of-source c =
    let f = fits {game = c.args.game.now} c.words_for-width.ensures c.requires.game_in_bounds.0 in
    record { rows_fit = (record { wide = f.wide; long = omega (arith, f.long) }, c.reach_rows.ensures) }

pub list_classes-requires : goal.list_classes-requires
list_classes-requires c = record { prepared = c.requires.prepared; k_value = c.requires.k_value; k_in_bounds = c.requires.k_in_bounds }
