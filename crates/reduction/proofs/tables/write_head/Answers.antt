-- Each part is put behind the one before it, so the four together are the words before the targets.
use mathlib.Core.Path.{◌≡◌, refl, ◌∙◌}
use mathlib.Core.List.{List}
use Prim.Native.Nat.{ℕ, ◌≤◌, ◌<◌}
use native.Mathlib.Omega.{arith}
use lib.ListN.{length, get_or, length-set}
use Rattle.theory.proofs.Logic.ListLaws.{length_tabulate}
use Rattle.theory.specs.Order.Order.{order}
use Rattle.theory.proofs.Classes.QuotientLaws.{order_preorder}
use Rattle.table.specs.Limits.{vertex_limit}
use Rattle.table.specs.Table.{vertex_count, game_of}
use Rattle.table.specs.WellFormed.{WellFormed}
use Rattle.reduction.specs.Tables.{head_by}
use Rattle.classes.specs.Numbering.{classes_in, Represented}
use Rattle.classes.specs.NumberingLaws.{represented_lt}
use Rattle.classes.specs.OrderedMarksLaws.{classes_few}
use Rattle.reduction.proofs.TablesLaws.{head_parts}
use Rattle.reduction.proofs.tables.write_head.Goals as goal

few : (game : List ℕ) {k : ℕ} → WellFormed game → k ≡ classes_in (game_of game) → k ≤ vertex_limit
few game w e = omega (arith, e, classes_few game w)

-- a representative is a vertex
vertex : (game : List ℕ) {reps : List ℕ} {k : ℕ} → Represented (game_of game).n (order (game_of game)) reps → k ≡ classes_in (game_of game)
    → (i : ℕ) → i < k → get_or reps i 0 < vertex_count game
unfolding game_of
vertex game r e i h = (represented_lt (order_preorder (game_of game)) r i (omega (arith, e))).1

pub overflow_cast-output : goal.overflow_cast-output
overflow_cast-output c = let w = c.requires.well_formed in omega (arith, few c.args.game.now w.0 w.2)

pub bounds-output-0 : goal.bounds-output-0
bounds-output-0 c = omega (arith, c.requires.e_le_edge_limit.2.start)

pub bounds-output-1 : goal.bounds-output-1
bounds-output-1 c = simp length-set (omega (arith, c.requires.e_le_edge_limit.2.start))

pub gather-requires : goal.gather-requires
gather-requires c =
    let w = c.requires.well_formed in
    record {
      count_in_bounds = (simp length-set (omega (arith, c.requires.e_le_edge_limit.2.start)), omega (arith, w.1.long, w.2));
      by_index = λ i h. omega (arith, w.0.size, vertex c.args.game.now w.1 w.2 i h);
    }

pub overflow_add-k : goal.overflow_add-k
overflow_add-k c = let w = c.requires.well_formed in omega (arith, few c.args.game.now w.0 w.2)

pub overflow_add-n : goal.overflow_add-n
overflow_add-n c = omega (arith, c.requires.well_formed.0.vertices)

pub gather-requires-2 : goal.gather-requires-2
gather-requires-2 c =
    let w = c.requires.well_formed in
    let kept : length c.gather.new.words ≡ length c.args.output.now = c.gather.auto.words ∙ simp length-set in
    record {
      count_in_bounds = (omega (arith, kept, c.requires.e_le_edge_limit.2.start), omega (arith, w.1.long, w.2));
      by_index = λ i h. omega (arith, w.0.size, vertex c.args.game.now w.1 w.2 i h);
    }

pub overflow_mul-k : goal.overflow_mul-k
overflow_mul-k c = let w = c.requires.well_formed in omega (arith, few c.args.game.now w.0 w.2)

pub overflow_add-k-2 : goal.overflow_add-k-2
overflow_add-k-2 c = let w = c.requires.well_formed in omega (arith, few c.args.game.now w.0 w.2)

pub write_sources-requires : goal.write_sources-requires
write_sources-requires c =
    let w = c.requires.well_formed in
    let b = c.requires.e_le_edge_limit in
    let kept : length c.gather-2.new.words ≡ length c.args.output.now = c.gather-2.auto.words ∙ (c.gather.auto.words ∙ simp length-set) in
    (few c.args.game.now w.0 w.2, b.1, rw kept b.2)

pub returns : goal.returns
unfolding head_by
returns c = head_parts _ _ _ _ _ _ _ _ _ _ (length_tabulate _ _) (length_tabulate _ _) c.requires.e_le_edge_limit.2.start
    refl c.gather.ensures c.gather-2.ensures c.write_sources.ensures
