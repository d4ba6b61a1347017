-- What the code counts: class words by vertex, and sources in the table of the reduced game.
use Rattle.std.specs.Prelude.{◌≡◌, List, ℕ, ◌+◌, ◌*◌, ◌≤◌, ◌<◌, length, drop}
use Rattle.std.proofs.Math.Path.{refl, ap}
use Rattle.std.proofs.Common.{sym, ◌∙◌, zero-add, arith, length-append}
use Rattle.std.proofs.Math.Dec.{eqb}
use Rattle.std.proofs.Math.ListN.{get_or}
use Rattle.theory.specs.Logic.Range.{count, sum, tabulate}
use Rattle.theory.proofs.Logic.CountLaws.{count_ext}
use Rattle.theory.proofs.Logic.SumLaws.{sum_ext}
use Rattle.theory.proofs.Logic.ListLaws.{length_tabulate, get_d_tabulate, tabulate_ext}
use Rattle.theory.proofs.Plans.LinkLaws.{linked_at}
use Rattle.theory.specs.Games.Game.{Game, edge_count}
use Rattle.theory.specs.Order.Order.{order}
use Rattle.theory.specs.Classes.Reduction.{class_game, reduced, class_of}
use Rattle.theory.proofs.Classes.ClassLaws.{class_count_le, class_number_lt}
use Rattle.theory.proofs.Classes.QuotientLaws.{order_preorder}
use Rattle.theory.proofs.Classes.SizeLaws.{reduced_edges}
use Rattle.theory.specs.Classes.Totals.{member_count, out_degree}
use Rattle.table.specs.Limits.{vertex_limit}
use Rattle.table.specs.Table.{vertex_count, table_edges, source_at, game_of}
use Rattle.table.specs.TableLaws.{edges_listed}
use Rattle.table.specs.Answers.{written}
use Rattle.table.specs.AnswersLaws.{get_d_written}
use Rattle.table.specs.TableWords.{edges_of, table_words}
use Rattle.table.specs.TableWordsLaws.{length_table_words, length_edges_of, edges_of_lists, table_words_degree, source_is}
use Rattle.index.specs.Index.{from, source_count, Column}
use Rattle.classes.specs.ClassesCall.{class_total, class_words}
use Rattle.reduction.specs.TableCall.{class_table}
use Rattle.reduction_totals.specs.Totals.{member_words, edge_words, member_total, edge_total}
use Rattle.reduction_totals.specs.Counting.{Tabulated, Totalled}

-- the first words of a buffer, and how many there are at least
length_written_ge : (new old : List ℕ) → length new ≤ length (written new old)
unfolding written
length_written_ge new old = omega (arith, length-append new (drop (length new) old))

-- words of a buffer that are f 0, .., f (k - 1), and their sum
pub sum_written : (k : ℕ) (f : ℕ → ℕ) (old new : List ℕ) → new ≡ written (tabulate k f) old → sum k (λ c. get_or new c 0) ≡ sum k f
sum_written k f old new e = sum_ext k _ f (λ c h.
    rw e (get_d_written (tabulate k f) old c 0 (rw (length_tabulate k f) h) ∙ get_d_tabulate k f 0 c h))

pub few_classes : (game : List ℕ) → class_total game ≤ vertex_count game
unfolding class_total game_of
few_classes game = class_count_le (vertex_count game) (order (game_of game)) (order_preorder (game_of game))

module _ {game classes table : List ℕ} (r : Tabulated game classes table) where
  abbrev K : Game
  K = reduced (game_of game)

  abbrev T : List ℕ
  T = class_table reduced game

  size : K.n ≡ class_total game
  unfolding reduced class_game class_total game_of
  size = refl

  -- ---- members

  class_at_lem : (v : ℕ) → v < vertex_count game → from classes 0 v ≡ class_of (game_of game) v
  unfolding class_words
  class_at_lem v h =
      let f = class_of (game_of game) in
      let n = vertex_count game in
      rw (zero-add v, r.classes_are) (get_d_written (tabulate n f) r.old_classes v 0 (rw (length_tabulate n f) h) ∙ get_d_tabulate n f 0 v h)

  classes_long : length (class_words game) ≡ vertex_count game
  unfolding class_words
  classes_long = length_tabulate (vertex_count game) (class_of (game_of game))

  class_column : Column classes 0 (vertex_count game) (class_total game)
  class_column = record {
    few = omega (arith, r.well.vertices);
    inside = omega (arith, ap length r.classes_are, length_written_ge (class_words game) r.old_classes, classes_long);
    below = λ v h. rw (class_at_lem v h) (unfold class_total class_of game_of in class_number_lt (vertex_count game) (order (game_of game)) (order_preorder (game_of game)) v h);
  }

  member_words_lem : tabulate (class_total game) (source_count (from classes 0) (vertex_count game)) ≡ member_words game
  unfolding member_words member_count source_count game_of
  member_words_lem = tabulate_ext (class_total game) _ _ (λ c h. count_ext (vertex_count game) _ _ (λ v l. ap (λ (x : ℕ). eqb x c) (class_at_lem v l)))

  -- ---- edges

  edges : edge_count K ≤ table_edges game
  edges = omega (arith, reduced_edges (game_of game), edges_listed game)

  long : length T ≡ 2 + 2 * class_total game + 2 * edge_count K
  long = omega (arith, length_table_words K (edges_of K), size, length_edges_of K)

  table_at : (i : ℕ) → i < length T → get_or table i 0 ≡ get_or T i 0
  table_at i h = rw r.table_is (get_d_written T r.old_table i 0 h)

  pub table_vertices : vertex_count table ≡ class_total game
  unfolding table_words
  table_vertices = table_at 0 (omega (arith, long)) ∙ size

  table_edges_lem : table_edges table ≡ edge_count K
  unfolding table_words
  table_edges_lem = table_at 1 (omega (arith, long)) ∙ length_edges_of K

  -- source j of the table, as the code reads it
  source_at_lem : (j : ℕ) → j < edge_count K → from table (2 + 2 * class_total game) j ≡ source_at T j
  unfolding table_words
  source_at_lem j h = table_at (2 + 2 * class_total game + j) (omega (arith, long)) ∙ ap (λ (k : ℕ). get_or T (2 + 2 * k + j) 0) (sym size)

  edge_count_lem : (c : ℕ) → c < class_total game → source_count (from table (2 + 2 * class_total game)) (edge_count K) c ≡ out_degree K c
  unfolding source_count
  edge_count_lem c h =
      count_ext (edge_count K) _ _ (λ j l. ap (λ (x : ℕ). eqb x c) (source_at_lem j l))
      ∙ ap (λ (m : ℕ). count m (λ j. eqb (source_at T j) c)) (sym (length_edges_of K))
      ∙ table_words_degree K (edges_of K) (edges_of_lists K) c (rw size h)

  edge_column : Column table (2 + 2 * class_total game) (edge_count K) (class_total game)
  edge_column = record {
    few = omega (arith, edges, r.well.edges);
    inside = omega (arith, ap length r.table_is, length_written_ge T r.old_table, long);
    below = λ j h.
        let l : j < length (edges_of K) = omega (arith, length_edges_of K) in
        rw (source_at_lem j h) (omega (arith, source_is K (edges_of K) j l, size, (((edges_of_lists K).edges _ _).0 (linked_at (edges_of K) j l)).0));
  }

  edge_words_lem : tabulate (class_total game) (source_count (from table (2 + 2 * class_total game)) (edge_count K)) ≡ edge_words game
  unfolding edge_words
  edge_words_lem = tabulate_ext (class_total game) _ _ edge_count_lem

  -- ---- by the sizes that the code reads in the table

  pub table_long : 2 ≤ length table
  table_long = omega (arith, ap length r.table_is, length_written_ge T r.old_table, long)

  pub classes_few : vertex_count table ≤ vertex_limit
  classes_few = omega (arith, table_vertices, few_classes game, r.well.vertices)

  pub class_column_read : Column classes 0 (vertex_count game) (vertex_count table)
  class_column_read = rw table_vertices class_column

  pub edge_column_read : Column table (2 + 2 * vertex_count table) (table_edges table) (vertex_count table)
  edge_column_read = rw (table_vertices, table_edges_lem) edge_column

  module _ (members members' outs outs' : List ℕ) (a b : ℕ)
      (p : members' ≡ written (tabulate (vertex_count table) (source_count (from classes 0) (vertex_count game))) members)
      (q : outs' ≡ written (tabulate (vertex_count table) (source_count (from table (2 + 2 * vertex_count table)) (table_edges table))) outs)
      (s : a ≡ sum (vertex_count table) (λ c. get_or members' c 0)) (t : b ≡ sum (vertex_count table) (λ c. get_or outs' c 0)) where
    members_written : members' ≡ written (member_words game) members
    members_written = (rw table_vertices at p) ∙ ap (λ (w : List ℕ). written w members) member_words_lem

    edges_written : outs' ≡ written (edge_words game) outs
    edges_written = (rw (table_vertices, table_edges_lem) at q) ∙ ap (λ (w : List ℕ). written w outs) edge_words_lem

    pub totalled : Totalled game members outs (record { members = a; edges = b }) members' outs'
    totalled = record {
      member_total_lem = (rw table_vertices at s) ∙ (unfold member_total member_words in sum_written (class_total game) (member_count (game_of game)) members members' members_written);
      edge_total_lem = (rw table_vertices at t) ∙ (unfold edge_total edge_words in sum_written (class_total game) (out_degree K) outs outs' edges_written);
      members_after = members_written;
      edges_after_lem = edges_written;
    }
