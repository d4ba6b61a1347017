-- Invariant: the targets of the classes before c are listed. They are at most as many as the game's edges, so each row has room.
use Rattle.reduction_edges.specs.Rows.{picked, game_by, Listed}
use mathlib.Core.Path.{◌≡◌}
use mathlib.Core.Bool.{Bool}
use mathlib.Core.List.{List}
use Prim.Native.Nat.{ℕ, ◌+◌, ◌*◌, ◌≤◌, ◌<◌}
use native.Mathlib.Omega.{arith}
use lib.ListN.{length, length-map}
use Rattle.theory.specs.Logic.Range.{pairs_below}
use Rattle.table.specs.Table.{game_of, table_edges}
use Rattle.classes.specs.Numbering.{classes_in}
use Rattle.reduction_edges.proofs.ListingLaws.{rows_none, rows_more, rows_few}
use Rattle.reduction_edges.proofs.listing.Source.list_classes.Goals as goal

-- the row of class c has room
room : (game : List ℕ) (drop : Bool) {k at c e : ℕ} {ends ends' stops : List ℕ}
    → k ≡ classes_in (game_of game)
    → c < k
    → Listed k (game_by drop (game_of game)).edge at c ends ends' stops e
    → (e ≡ at + length (pairs_below k (game_by drop (game_of game)).edge (c * k)))
    × (e + length (picked k ((game_by drop (game_of game)).edge c)) ≤ at + table_edges game)
room game drop {k = k} {c = c} same h listed =
    let E = (game_by drop (game_of game)).edge in
    let n = length-map (pairs_below k E (c * k)) (λ (x : ℕ × ℕ). x.1) in
    let e = listed.targets.count in
    (omega (arith, e, n), omega (arith, e, n, rows_few game drop k same c h))

pub loop-c-init : goal.loop-c-init
loop-c-init c = rows_none _ _ _ _ _

pub append_class-e-requires : goal.append_class-e-requires
append_class-e-requires c =
    let l = c.loop-c in
    let k = c.requires.k_value in
    record {
      prepared = c.requires.prepared;
      c_in_bounds = omega (arith, k);
      room = rw (← k) (omega (arith, room c.args.self.game.now c.args.self.drop k (omega arith) l.invariant, l.auto.ends, c.requires.k_in_bounds));
    }

pub overflow_cast-stops : goal.overflow_cast-stops
overflow_cast-stops c =
    let k = c.requires.k_value in
    let put = rw (← k) at c.append_class-e.ensures in
    omega (arith, room c.args.self.game.now c.args.self.drop k (omega arith) c.loop-c.invariant, put.count, c.requires.k_in_bounds, c.requires.prepared.grouped.well.edges)

pub loop-c-preserved : goal.loop-c-preserved
loop-c-preserved c =
    let l = c.loop-c in
    let k = c.requires.k_value in
    let b = c.requires.k_in_bounds in
    rows_more _ _ _ _ _ _ _ _ _ _ (omega (arith, room c.args.self.game.now c.args.self.drop k (omega arith) l.invariant, b)) (omega (arith, l.auto.stops, b)) l.invariant
    (rw (← k) at c.append_class-e.ensures)

pub returns : goal.returns
returns c = let l = c.loop-c in
    let e : l.c ≡ c.args.k = omega arith in
    rw e at l.invariant
