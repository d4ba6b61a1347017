-- The classes are numbered, the targets of their edges are listed where the sources belong and put again behind that, and the words before them are
-- written over the first.
use mathlib.Core.Path.{◌≡◌, refl, ◌∙◌}
use mathlib.Core.List.{List}
use mathlib.Core.Bool.{Bool}
use Prim.Native.Nat.{ℕ, ◌+◌, ◌*◌, ◌≤◌}
use native.Mathlib.Omega.{arith}
use lib.ListN.{length}
use Rattle.theory.specs.Logic.Range.{pairs_of}
use Rattle.theory.specs.Order.Order.{order}
use Rattle.theory.proofs.Classes.QuotientLaws.{order_preorder}
use Rattle.theory.proofs.Classes.ClassLaws.{class_count_le}
use Rattle.marks.specs.Marks.{relation}
use Rattle.table.specs.Table.{vertex_count, table_edges, game_of}
use Rattle.classes.specs.Numbering.{Ordered, Numbered, Classed, classes_in, Represented}
use Rattle.classes.specs.NumberingLaws.{numbered_classed, numbered_represented, numbered_total}
use Rattle.classes.specs.OrderedMarksLaws.{ordered_preorder, ordered_words, ordered_numbered}
use Rattle.reduction_edges.specs.Rows.{game_by, Listed}
use Rattle.reduction_edges.proofs.ListingLaws.{edges_few}
use Rattle.reduction.proofs.SourcesLaws.{listed_count, stops_ascend}
use Rattle.reduction.proofs.TablesLaws.{table_filled}
use Rattle.reduction.proofs.tables.fill_within.Goals as goal

-- the classes and the representatives that were written, and how many there are
record Known (game : List ℕ) (k : ℕ) (words reps : List ℕ) : Type 0 where
  classed : Classed (game_of game).n (order (game_of game)) words
  represented : Represented (game_of game).n (order (game_of game)) reps
  total : k ≡ classes_in (game_of game)
  few : k ≤ vertex_count game

known : {game marks words reps : List ℕ} {k : ℕ} → Ordered (game_of game) marks → Numbered (vertex_count game) (relation (vertex_count game) marks) (vertex_count game) k words reps
    → vertex_count game ≤ length words → vertex_count game ≤ length reps → Known game k words reps
unfolding game_of
known {game = game} o p w r =
    let G = game_of game in
    let n = ordered_numbered game o refl p in
    let total = numbered_total n in
    record {
      classed = numbered_classed n w;
      represented = numbered_represented n (order_preorder G) r;
      total = total;
      few = omega (arith, total, class_count_le G.n (order G) (order_preorder G));
    }

-- as many edges as the game of classes has, and no more than the table has
sizes : (game : List ℕ) (drop : Bool) {k stop : ℕ} {ends ends' stops : List ℕ} → k ≡ classes_in (game_of game)
    → Listed k (game_by drop (game_of game)).edge (2 + 2 * k) k ends ends' stops stop
    → (stop ≡ 2 + 2 * k + length (pairs_of k (game_by drop (game_of game)).edge)) × (length (pairs_of k (game_by drop (game_of game)).edge) ≤ table_edges game)
sizes game drop {k = k} e l = (listed_count l, edges_few game drop k e)

pub number_classes-k-requires : goal.number_classes-k-requires
number_classes-k-requires c =
    let w = c.requires.well_formed in
    record { preorder_marks = ordered_preorder _ w.1 refl w.0; n_in_bounds = (c.requires.game_in_bounds.0, c.requires.workspace.vertices_fit) }

pub overflow_mul-at : goal.overflow_mul-at
overflow_mul-at c =
    let w = c.requires.well_formed in
    let k = known w.1 c.number_classes-k.ensures.numbered (omega (arith, c.requires.game_in_bounds.0)) (omega (arith, c.requires.workspace.vertices_fit)) in
    omega (arith, k.few, w.0.vertices)

pub overflow_add-at : goal.overflow_add-at
overflow_add-at c =
    let w = c.requires.well_formed in
    let k = known w.1 c.number_classes-k.ensures.numbered (omega (arith, c.requires.game_in_bounds.0)) (omega (arith, c.requires.workspace.vertices_fit)) in
    omega (arith, k.few, w.0.vertices)

pub list_edges-stop-requires : goal.list_edges-stop-requires
list_edges-stop-requires c =
    let w = c.requires.well_formed in
    let s = c.requires.workspace in
    let k = known w.1 c.number_classes-k.ensures.numbered (omega (arith, c.requires.game_in_bounds.0)) (omega (arith, s.vertices_fit)) in
    record {
      prepared = record { grouped = record { well = w.0; classed = k.classed; represented = k.represented }; ordered = w.1 };
      k_value = k.total;
      game_in_bounds = (s.rows_fit, s.zeros);
      k_in_bounds = (omega (arith, k.few, s.stops_fit), omega (arith, k.few, c.requires.game_in_bounds.1), omega (arith, k.few, w.0.vertices));
    }

pub overflow_sub-e : goal.overflow_sub-e
overflow_sub-e c =
    let w = c.requires.well_formed in
    let k = known w.1 c.number_classes-k.ensures.numbered (omega (arith, c.requires.game_in_bounds.0)) (omega (arith, c.requires.workspace.vertices_fit)) in
    omega (arith, sizes c.args.game.now c.args.drop k.total c.list_edges-stop.ensures)

pub put_again-requires : goal.put_again-requires
put_again-requires c =
    let w = c.requires.well_formed in
    let k = known w.1 c.number_classes-k.ensures.numbered (omega (arith, c.requires.game_in_bounds.0)) (omega (arith, c.requires.workspace.vertices_fit)) in
    omega (arith, sizes c.args.game.now c.args.drop k.total c.list_edges-stop.ensures, k.few, c.requires.game_in_bounds.1)

pub write_head-requires : goal.write_head-requires
write_head-requires c =
    let w = c.requires.well_formed in
    let s = c.requires.workspace in
    let k = known w.1 c.number_classes-k.ensures.numbered (omega (arith, c.requires.game_in_bounds.0)) (omega (arith, s.vertices_fit)) in
    record {
      well_formed = (w.0, k.represented, k.total);
      e_le_edge_limit = (
        omega (arith, sizes c.args.game.now c.args.drop k.total c.list_edges-stop.ensures, w.0.edges),
        omega (arith, k.few, s.stops_fit),
        stops_ascend c.args.game.now c.args.drop k.total c.list_edges-stop.ensures (omega (arith, k.few, c.requires.game_in_bounds.1)),
      );
    }

pub returns : goal.returns
returns c =
    let w = c.requires.well_formed in
    let k = known w.1 c.number_classes-k.ensures.numbered (omega (arith, c.requires.game_in_bounds.0)) (omega (arith, c.requires.workspace.vertices_fit)) in
    let z = sizes c.args.game.now c.args.drop k.total c.list_edges-stop.ensures in
    table_filled c.args.game.now _ c.args.drop _ _ w.0 k.represented k.total (omega (arith, z)) _ _ _ _ _ _ _ _
    (c.number_classes-k.ensures.classes_value ∙ rw (ordered_words c.args.game.now w.1 refl))
    (omega (arith, z, k.few, c.requires.game_in_bounds.1)) c.list_edges-stop.ensures c.put_again.ensures c.write_head.ensures
