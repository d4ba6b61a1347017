-- The row is that of the representative, and what is kept of it are the edges of the class.
use mathlib.Core.Path.{◌≡◌}
use mathlib.Core.List.{List}
use Prim.Native.Nat.{ℕ, ◌+◌, ◌-◌, ◌*◌, ◌≤◌, ◌<◌}
use native.Mathlib.Omega.{arith}
use lib.ListN.{length, get_or, take, drop}
use Rattle.theory.proofs.Logic.ListLaws.{zeros}
use Rattle.theory.specs.Order.Order.{order}
use Rattle.theory.specs.Classes.Reduction.{representative}
use Rattle.theory.proofs.Classes.QuotientLaws.{rep_lt}
use Rattle.table.specs.Table.{vertex_count, game_of}
use Rattle.classes.specs.Numbering.{classes_in}
use Rattle.reduction_rows.specs.Reached.{RowsFit}
use Rattle.reduction_rows.specs.ReachedLaws.{row_inside}
use Rattle.reduction_edges.specs.LittleBrothers.{RowFits}
use Rattle.reduction_edges.specs.Rows.{Prepared}
use Rattle.reduction_edges.proofs.ListingLaws.{row_length, class_row, class_size}
use Rattle.reduction_edges.proofs.listing.Source.append_class.Goals as goal

low : {game marks classes reps : List ℕ} → Prepared game marks classes reps → (c : ℕ) → c < classes_in (game_of game)
    → get_or reps c 0 ≡ representative (game_of game).n (order (game_of game)) c
low p c h = p.grouped.represented.lowest c h

below : {game marks classes reps : List ℕ} → Prepared game marks classes reps → (c : ℕ) → c < classes_in (game_of game) → get_or reps c 0 < vertex_count game
unfolding game_of
below {game = game} p c h = omega (arith, low p c h, rep_lt (game_of game) c h)

-- the row of class c lies within the words
inside : {game marks classes reps words : List ℕ} {width : ℕ} → Prepared game marks classes reps → RowsFit game width words → (c : ℕ) → c < classes_in (game_of game)
    → get_or reps c 0 * width + width ≤ length words
inside p f c h = row_inside f _ (below p c h)

fits : {game marks classes reps words : List ℕ} {width : ℕ} → Prepared game marks classes reps → RowsFit game width words → (c : ℕ) → c < classes_in (game_of game)
    → RowFits (vertex_count game) (take (get_or reps c 0 * width + width - get_or reps c 0 * width) (drop (get_or reps c 0 * width) words))
fits {words = words} {width = width} p f c h = omega (arith, row_length width words _ (inside p f c h), f.wide)

pub overflow_cast-r : goal.overflow_cast-r
overflow_cast-r c = let p = c.requires.prepared in omega (arith, below p c.args.c c.requires.c_in_bounds, p.grouped.well.vertices)

pub overflow_mul-at : goal.overflow_mul-at
overflow_mul-at c = let p = c.requires.prepared in omega (arith, inside p c.args.self.rows_fit.0 c.args.c c.requires.c_in_bounds)

pub overflow_add-row : goal.overflow_add-row
overflow_add-row c = let p = c.requires.prepared in omega (arith, inside p c.args.self.rows_fit.0 c.args.c c.requires.c_in_bounds)

pub slice_bounds-row-end : goal.slice_bounds-row-end
slice_bounds-row-end c = let p = c.requires.prepared in omega (arith, inside p c.args.self.rows_fit.0 c.args.c c.requires.c_in_bounds)

pub drop_row-requires : goal.drop_row-requires
unfolding game_of
drop_row-requires c =
    let p = c.requires.prepared in
    record {
      well_formed = (p.grouped.well, below p c.args.c c.requires.c_in_bounds, (p.grouped.well.vertices, p.ordered.long));
      row_fits = (fits p c.args.self.rows_fit.0 c.args.c c.requires.c_in_bounds, p.grouped.well.vertices);
      by_index = zeros 8;
    }

-- what is kept are the edges of the class
pub append_row-requires : goal.append_row-requires
unfolding game_of
append_row-requires c =
    let p = c.requires.prepared in
    let f = c.args.self.rows_fit in
    let size = class_size p c.args.c c.requires.c_in_bounds _ (low p c.args.c c.requires.c_in_bounds) _ _ f.0 f.1 _ _ c.drop_row.ensures in
    record {
      n_le_vertex_limit = (p.grouped.well.vertices, p.grouped.classed.long, fits p f.0 c.args.c c.requires.c_in_bounds, omega (arith, p.grouped.well.vertices));
      room = omega (arith, size, c.requires.room);
    }

pub returns : goal.returns
unfolding game_of
returns c =
    let p = c.requires.prepared in
    let f = c.args.self.rows_fit in
    rw (class_row p c.args.c c.requires.c_in_bounds _ (low p c.args.c c.requires.c_in_bounds) _ _ f.0 f.1 _ _ c.drop_row.ensures) at c.append_row.ensures
