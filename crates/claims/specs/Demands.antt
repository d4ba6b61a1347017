-- Demand 3 about what the promises name: tables that the reader accepts, the order and the classes that an accepted call leaves, relations
-- that the acceptor passes, and written tables. Hypotheses are only: a call passed its rows, a mark is set, a vertex is below n, a plan wins.
use Rattle.std.specs.Prelude.{◌≡◌, refl, ◌↔◌, List, [], ◌∷◌, ℕ, ◌+◌, ◌*◌, ◌≤◌, ◌<◌, length, drop, get_or}
use Rattle.std.proofs.Common.{sym, ap₂, ◌∙◌, arith, length-append, take_at}
use Rattle.std.proofs.Math.Bool.{So}
use Rattle.theory.specs.Logic.Range.{Before}
use Rattle.theory.proofs.Logic.ListLaws.{length_tabulate, get_d_tabulate}
use Rattle.theory.specs.Games.Game.{Player, even, odd, Game, Succ, edge_count}
use Rattle.theory.specs.Order.Order.{order}
use Rattle.theory.proofs.Order.OrderLaws.{order_in}
use Rattle.theory.specs.Plans.Plan.{Won}
use Rattle.theory.specs.Classes.Reduction.{quotient, reduced, class_of}
use Rattle.theory.proofs.Classes.ReductionLaws.{quotient_total, reduced_total, class_of_quotient, class_of_reduced}
use Rattle.theory.proofs.Classes.SizeLaws.{quotient_size, reduced_size, quotient_edges, reduced_edges}
use Rattle.theory.proofs.Winners.KeptWinners as games
use Rattle.theory.proofs.Games.AgreementLaws.{agree_winner, agree_sym, agree_edge_count}
use Rattle.table.specs.Limits.{vertex_limit, edge_limit}
use Rattle.table.specs.Table.{vertex_count, table_edges, source_at, target_at, table_length, game_of}
use Rattle.table.specs.Answers.{Row, Answer, accepted, Clean, written, after}
use Rattle.table.specs.AnswersLaws.{judge_accepted, after_clean, get_d_written}
use Rattle.table.specs.Reading.{read_answer}
use Rattle.table.specs.ReadingLaws.{read_accepts}
use Rattle.table.specs.WellFormed.{WellFormed}
use Rattle.table.specs.TableLaws.{edges_listed, game_total}
use Rattle.table.specs.TableWords.{edges_of, table_words}
use Rattle.table.specs.TableWordsLaws.{length_table_words, source_is, target_is, table_words_edge, table_words_well, table_words_agree, edges_of_lists, edges_of_ascend, length_edges_of}
use Rattle.marks.specs.Marks.{is_mark, Marked}
use Rattle.order.specs.OrderCall.{order_rows, order_bytes, OrderCall}
use Rattle.order.specs.OrderRulesLaws as orders
use Rattle.order_acceptor.specs.RelationCall.{relation_answer}
use Rattle.order_acceptor.specs.RelationRulesLaws.{passed_below}
use Rattle.classes.specs.ClassesCall.{class_rows, class_words, ClassesCall}
use Rattle.reduction.specs.TableCall.{table_rows, TableCall}
use Rattle.reduction.proofs.TableRulesLaws.{table_accepted}
use Rattle.claims.specs.WrittenMemory.{LeavesOrder, LeavesClasses, written_table, Faithful}

-- ---- which calls leave the order and the classes: a line for each call and buffer

module _ {game marks spare : List ℕ} {answer : Answer} {marks' spare' : List ℕ} (call : OrderCall game marks spare answer marks' spare') where
  pub order_leaves_marks : LeavesOrder game (order_rows game marks spare) marks marks'
  order_leaves_marks = record { buffer = call.marks_after }

  pub order_leaves_spare : LeavesOrder game (order_rows game marks spare) spare spare'
  order_leaves_spare = record { buffer = call.spare_after }

module _ {game marks spare classes : List ℕ} {answer : Answer} {marks' spare' classes' : List ℕ}
    (call : ClassesCall game marks spare classes answer marks' spare' classes') where
  pub classes_leaves_marks : LeavesOrder game (class_rows game marks spare classes) marks marks'
  classes_leaves_marks = record { buffer = call.marks_after }

  pub classes_leaves_spare : LeavesOrder game (class_rows game marks spare classes) spare spare'
  classes_leaves_spare = record { buffer = call.spare_after }

  pub classes_leaves_classes : LeavesClasses game (class_rows game marks spare classes) classes classes'
  classes_leaves_classes = record { words = call.classes_after }

-- the quotient and the reduced game alike
module _ {K : Game → Game} {game marks spare classes output : List ℕ} {answer : Answer} {marks' spare' classes' output' : List ℕ}
    (call : TableCall K game marks spare classes output answer marks' spare' classes' output') where
  pub table_leaves_marks : LeavesOrder game (table_rows game marks spare classes output) marks marks'
  table_leaves_marks = record { buffer = call.marks_after }

  pub table_leaves_spare : LeavesOrder game (table_rows game marks spare classes output) spare spare'
  table_leaves_spare = record { buffer = call.spare_after }

  pub table_leaves_classes : LeavesClasses game (table_rows game marks spare classes output) classes classes'
  table_leaves_classes = record { words = call.classes_after }

-- ---- the written order: what a buffer holds after a call that, by its rules, leaves the order there

module _ {game : List ℕ} {rows : List Row} {old new : List ℕ} (left : LeavesOrder game rows old new) (passed : Clean rows) where
  -- the mark of (v, w) is set exactly if v is below w
  pub written_mark : (v w : ℕ) → v < vertex_count game → w < vertex_count game → Marked (vertex_count game) new v w ↔ So (order (game_of game) v w)
  written_mark v w hv hw =
      let e : is_mark new (v * vertex_count game + w) ≡ order (game_of game) v w =
      rw (left.buffer, after_clean rows (order_bytes game) old passed) (orders.written_mark game old v w hv hw) in
      (λ m. sym e ∙ m, λ t. e ∙ t)

  -- the written order contains every relation that the acceptor passes
  pub contains : (relation : List ℕ) → relation_answer game relation ≡ accepted []
      → (v w : ℕ) → v < vertex_count game → w < vertex_count game → Marked (vertex_count game) relation v w → Marked (vertex_count game) new v w
  unfolding game_of
  contains relation passes v w hv hw m = (written_mark v w hv hw).1 (order_in (game_of game) hv hw (passed_below game relation passes v w m))

  -- where v is below w, a winning plan for Even from v gives one from w ..
  pub even_up : (v w : ℕ) → v < vertex_count game → w < vertex_count game → Marked (vertex_count game) new v w
      → Won even (game_of game) v → Won even (game_of game) w
  unfolding game_of
  even_up v w hv hw b = games.even_up (game_of game) v w hv hw ((written_mark v w hv hw).0 b)

  -- .. and a winning plan for Odd from w gives one from v
  pub odd_down : (v w : ℕ) → v < vertex_count game → w < vertex_count game → Marked (vertex_count game) new v w
      → Won odd (game_of game) w → Won odd (game_of game) v
  unfolding game_of
  odd_down v w hv hw b = games.odd_down (game_of game) v w hv hw ((written_mark v w hv hw).0 b)

-- ---- what is written stands whole in its buffer

written_long : (rows : List Row) (words old : List ℕ) {new : List ℕ} → new ≡ after rows words old → Clean rows → length words ≤ length new
unfolding written
written_long rows words old e passed = rw (e, after_clean rows words old passed) (omega (arith, length-append words (drop (length words) old)))

-- ---- the written classes: the class word of a vertex is its class

pub class_long : {game : List ℕ} {rows : List Row} {old new : List ℕ} → LeavesClasses game rows old new → Clean rows → vertex_count game ≤ length new
unfolding class_words
class_long {game} {rows} {old} left passed =
    omega (arith, length_tabulate (vertex_count game) (class_of (game_of game)), written_long rows (class_words game) old left.words passed)

pub class_word : {game : List ℕ} {rows : List Row} {old new : List ℕ} → LeavesClasses game rows old new → Clean rows
    → (v : ℕ) → v < vertex_count game → get_or new v 0 ≡ class_of (game_of game) v
unfolding class_words
class_word {game} {rows} {old} left passed v h =
    rw (left.words, after_clean rows (class_words game) old passed)
    (get_d_written (class_words game) old v 0 (omega (arith, length_tabulate (vertex_count game) (class_of (game_of game))))
    ∙ get_d_tabulate (vertex_count game) (class_of (game_of game)) 0 v h)

-- ---- written tables: of the quotient and of the reduced game alike

pub quotient_faithful : Faithful quotient
quotient_faithful = record { total = quotient_total; size = quotient_size; edges = quotient_edges; class = class_of_quotient; winner = games.quotient_winner }

pub reduced_faithful : Faithful reduced
reduced_faithful = record { total = reduced_total; size = reduced_size; edges = reduced_edges; class = class_of_reduced; winner = games.reduced_winner }

module _ {K : Game → Game} (faithful : Faithful K)
    {game marks spare classes output : List ℕ} {answer : Answer} {marks' spare' classes' output' : List ℕ}
    (call : TableCall K game marks spare classes output answer marks' spare' classes' output')
    (k n e : ℕ) (accepts : answer ≡ accepted (k ∷ n ∷ e ∷ [])) where
  abbrev G : Game
  G = game_of game

  -- the verdict's counts
  pub record Counts : Type 0 where
    pub vertices : (K G).n ≡ n
    pub edges : edge_count (K G) ≡ e

  abbrev es : List (ℕ × ℕ)
  es = edges_of (K G)

  pub counts : Counts
  counts =
      let a = judge_accepted (table_rows game marks spare classes output) _ _ (sym call.verdict ∙ accepts) in
      record { vertices = cc a.1; edges = cc a.1 }

  edges_are : length es ≡ e
  edges_are = length_edges_of (K G) ∙ counts.edges

  pub passed : Clean (table_rows game marks spare classes output)
  passed = (judge_accepted (table_rows game marks spare classes output) _ _ (sym call.verdict ∙ accepts)).0

  well : WellFormed game
  well = (table_accepted call _ accepts).0.classes_fit.order_fits.game

  size_is : length (table_words (K G) es) ≡ table_length n e
  size_is = length_table_words (K G) es ∙ ap₂ {C = ℕ} table_length counts.vertices edges_are

  pub table_is : written_table n e output' ≡ table_words (K G) es
  unfolding written
  table_is =
      rw (call.output_after, after_clean (table_rows game marks spare classes output) (table_words (K G) es) output passed)
      (take_at (table_words (K G) es) _ (table_length n e) size_is)

  pub table_long : table_length n e ≤ length output'
  table_long = omega (arith, size_is, written_long (table_rows game marks spare classes output) (table_words (K G) es) output call.output_after passed)

  vertex : (v : ℕ) → v < vertex_count game → v < G.n
  unfolding game_of
  vertex v h = h

  few : (K G).n ≤ vertex_limit
  unfolding game_of
  few = omega (arith, faithful.size G, well.vertices)

  -- it has at most the game's m edges
  pub table_edges_lem : e ≤ table_edges game
  table_edges_lem = omega (arith, counts.edges, faithful.edges G, edges_listed game)

  fits : length es ≤ edge_limit
  fits = omega (arith, edges_are, table_edges_lem, well.edges)

  table_well : WellFormed (written_table n e output')
  table_well =
      rw table_is
      (table_words_well (K G) es (edges_of_lists (K G)) (omega (arith, faithful.class G 0 (vertex 0 well.some))) few fits
      (faithful.total G (game_total game well)))

  -- the reader accepts the written table, whose edges are all different
  pub table_read : read_answer (written_table n e output') ≡ accepted (n ∷ e ∷ e ∷ [])
  unfolding table_words
  table_read = read_accepts (written_table n e output') table_well ∙ rw table_is
      (cc (counts.vertices, edges_are, agree_edge_count (table_words_agree (K G) es (edges_of_lists (K G))) ∙ counts.edges))

  -- its edges are exactly those of K ..
  pub table_edge : (c d : ℕ) → So ((game_of (written_table n e output')).edge c d) ↔ ((c < n) × Succ (K G) c d)
  table_edge c d =
      let agree = table_words_edge (K G) es (edges_of_lists (K G)) c d in
      rw (table_is, ← counts.vertices) agree

  -- .. and stand by source, ascending, then by target, ascending: so each stands there once, and the table is determined whole
  pub table_ascends : (i j : ℕ) → i < j → j < e → let t = written_table n e output' in Before (source_at t i, target_at t i) (source_at t j, target_at t j)
  table_ascends i j h l =
      let m : j < length es = omega (arith, edges_are) in
      let k : i < length es = omega arith in
      rw (table_is, source_is (K G) es i k, target_is (K G) es i k, source_is (K G) es j m, target_is (K G) es j m) (edges_of_ascend (K G) i j h m)

  -- each player has a winning plan from a vertex exactly when that player has one from its class in the reduced game
  pub table_winner : (a : Player) (v : ℕ) → v < vertex_count game → Won a (game_of game) v ↔ Won a (game_of (written_table n e output')) (get_or classes' v 0)
  table_winner a v h =
      let there = faithful.winner G a v (vertex v h) in
      let back =
      agree_winner a (K G) (game_of (table_words (K G) es)) (agree_sym (table_words_agree (K G) es (edges_of_lists (K G)))) (class_of G v) in
      rw (table_is, class_word (table_leaves_classes call) passed v h) (λ w. back.0 (there.0 w), λ w. there.1 (back.1 w))

-- "Two engineers print the reduced game of the same model": whatever was in the buffers, and however long they were, the tables are one
module _ {K : Game → Game} (faithful : Faithful K) {game : List ℕ}
    {marks spare classes output marks' spare' classes' output' : List ℕ} {k n e : ℕ}
    (call : TableCall K game marks spare classes output (accepted (k ∷ n ∷ e ∷ [])) marks' spare' classes' output')
    {marks₂ spare₂ classes₂ output₂ marks₂' spare₂' classes₂' output₂' : List ℕ} {k₂ n₂ e₂ : ℕ}
    (call₂ : TableCall K game marks₂ spare₂ classes₂ output₂ (accepted (k₂ ∷ n₂ ∷ e₂ ∷ [])) marks₂' spare₂' classes₂' output₂') where
  pub one_table : written_table n e output' ≡ written_table n₂ e₂ output₂'
  one_table = table_is faithful call k n e refl ∙ sym (table_is faithful call₂ k₂ n₂ e₂ refl)
