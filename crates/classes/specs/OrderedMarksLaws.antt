-- Classes go by the relation between the n vertices alone, so those of marks are those of the relation that they hold. What the order's
-- passes leave holds the order of the game.
use Rattle.std.specs.Prelude.{◌≡◌, refl, Bool, List, ℕ, zero, suc, ◌+◌, ◌*◌, ◌≤◌, ◌<◌, length}
use Rattle.std.proofs.Common.{sym, ◌∙◌, arith}
use Rattle.std.proofs.Math.Path.{ap, ap₂}
use Rattle.std.proofs.Math.Bool.{false}
use Rattle.std.proofs.Math.Arith.{digits_lt}
use Rattle.std.proofs.Math.Dec.{eqb}
use Rattle.theory.specs.Logic.Bools.{◌&◌}
use Rattle.theory.specs.Logic.Range.{count, nth, tabulate}
use Rattle.theory.proofs.Logic.RangeLaws.{first_ext, first_le}
use Rattle.theory.proofs.Logic.CountLaws.{count_ext}
use Rattle.theory.proofs.Logic.ListLaws.{tabulate_ext}
use Rattle.theory.specs.Order.Passes.{Rel, rel_of}
use Rattle.theory.specs.Order.Order.{order, Preorder}
use Rattle.theory.specs.Order.Governed.{marks_by, relation_by, passes_by}
use Rattle.theory.proofs.Order.GovernedLaws.{relation_by_lem, preorder_by, length_by}
use Rattle.theory.specs.Classes.Reduction.{same_class, lowest, is_lowest, class_count, class_number, representative, class_of}
use Rattle.theory.proofs.Classes.ClassLaws.{class_count_le}
use Rattle.theory.proofs.Classes.QuotientLaws.{order_preorder}
use Rattle.table.specs.Limits.{vertex_limit}
use Rattle.table.specs.Table.{vertex_count, game_of}
use Rattle.table.specs.TableLaws.{game_n}
use Rattle.table.specs.Answers.{written}
use Rattle.table.specs.AnswersLaws.{length_written}
use Rattle.table.specs.WellFormed.{WellFormed}
use Rattle.marks.specs.Marks.{marks_length, relation}
use Rattle.marks.specs.MarksLaws.{relation_mark, mark_written}
use Rattle.order.specs.OrderCall.{bytes_of, order_bytes}
use Rattle.order.specs.OrderWritten.{MarksDone, OrderDone}
use Rattle.order.specs.OrderRulesLaws.{length_bytes_of}
use Rattle.classes.specs.Numbering.{Numbered, PreorderMarks, Holding, Ordered, classes_in}
use Rattle.classes.specs.ClassesCall.{class_words, total_of, words_of}

nth_ext : (n : ℕ) (p q : ℕ → Bool) → ((i : ℕ) → i < n → p i ≡ q i) → (c : ℕ) → nth n p c ≡ nth n q c
unfolding nth
nth_ext zero p q f c = refl
nth_ext (suc n) p q f c = rw (count_ext n p q (λ i h. f i (omega arith)), nth_ext n p q (λ i h. f i (omega arith)) c)

-- ---- two relations that agree on the n vertices

module _ (n : ℕ) (le le' : Rel) (agree : (v w : ℕ) → v < n → w < n → le v w ≡ le' v w) where
  lowest_agree : (v : ℕ) → v < n → lowest n le v ≡ lowest n le' v
  unfolding lowest same_class
  lowest_agree v h = first_ext _ _ 0 n (λ u l m. ap₂ ◌&◌ (agree u v m h) (agree v u h m))

  lowest_few : (v : ℕ) → lowest n le v ≤ n
  unfolding lowest
  lowest_few v = first_le _ 0 n (omega arith)

  is_lowest_agree : (v : ℕ) → v < n → is_lowest n le v ≡ is_lowest n le' v
  unfolding is_lowest
  is_lowest_agree v h = ap (λ (x : ℕ). eqb x v) (lowest_agree v h)

  class_count_agree : class_count n le ≡ class_count n le'
  unfolding class_count
  class_count_agree = count_ext n _ _ is_lowest_agree

  class_number_agree : (v : ℕ) → v < n → class_number n le v ≡ class_number n le' v
  unfolding class_number
  class_number_agree v h =
      count_ext (lowest n le v) _ _ (λ u l. is_lowest_agree u (omega (arith, lowest_few v)))
      ∙ ap (λ (x : ℕ). count x (is_lowest n le')) (lowest_agree v h)

  representative_agree : (c : ℕ) → representative n le c ≡ representative n le' c
  unfolding representative
  representative_agree c = nth_ext n _ _ is_lowest_agree c

-- ---- marks that hold a preorder

module _ {n : ℕ} {le : Rel} {marks : List ℕ} (holding : Holding n le marks) where
  pub holding_preorder : n ≤ vertex_limit → Preorder n le → PreorderMarks n marks
  holding_preorder few pre = record {
    few = few;
    long = holding.long;
    preorder = record {
      reflexive = λ v h. rw (holding.marked v v h h) (pre.reflexive v h);
      transitive = λ v u w hv hu hw s t.
          rw (holding.marked v w hv hw) (pre.transitive v u w hv hu hw (rw (holding.marked v u hv hu) at s) (rw (holding.marked u w hu hw) at t));
    };
  }

  pub holding_total : class_count n (relation n marks) ≡ class_count n le
  holding_total = class_count_agree n _ le holding.marked

  pub holding_words : tabulate n (class_number n (relation n marks)) ≡ tabulate n (class_number n le)
  holding_words = tabulate_ext n _ _ (class_number_agree n _ le holding.marked)

  -- the numbers by the marks are those by the relation
  pub holding_numbered : {k : ℕ} {classes reps : List ℕ} → Numbered n (relation n marks) n k classes reps → Numbered n le n k classes reps
  holding_numbered p = record {
    total = p.total ∙ count_ext n _ _ (is_lowest_agree n _ le holding.marked);
    numbers = λ u h. p.numbers u h ∙ class_number_agree n _ le holding.marked u h;
    lowest = λ c h. p.lowest c h ∙ representative_agree n _ le holding.marked c;
  }

-- ---- the order of a game, and its governed bisimulation

-- what a call leaves that writes the relation
held_written : (mirror : Bool) (game old : List ℕ) → marks_length (vertex_count game) ≤ length old
    → Holding (game_of game).n (relation_by mirror (game_of game)) (written (bytes_of (marks_by mirror) game) old)
unfolding game_of rel_of
held_written mirror game old h =
    let marks = marks_by mirror (game_of game) in
    let n = vertex_count game in record {
      long = rw (length_written (bytes_of (marks_by mirror) game) old (rw (length_bytes_of (marks_by mirror) (λ G. length_by G mirror) game) h)) h;
      marked = λ v w hv hw.
          relation_mark n (written (bytes_of (marks_by mirror) game) old) v w
          ∙ mark_written marks old (v * n + w) (omega (arith, length_by (game_of game) mirror, digits_lt hv hw))
          ∙ ap (λ (le : Rel). le v w) (sym (relation_by_lem (game_of game) mirror));
    }

module _ (mirror : Bool) where
  -- the marks after the passes
  pub held_done : {game marks spare : List ℕ} {passes : ℕ} {marks' spare' : List ℕ} → marks_length (vertex_count game) ≤ length marks
      → MarksDone (marks_by mirror) (passes_by mirror) game marks spare passes marks' spare'
      → Holding (game_of game).n (relation_by mirror (game_of game)) marks'
  held_done {game = game} {marks = marks} h done = rw done.marks_after (held_written mirror game marks h)

  -- the classes of marks that hold the relation are those of the relation
  module _ (game : List ℕ) {marks : List ℕ} (held : Holding (game_of game).n (relation_by mirror (game_of game)) marks) {n : ℕ} (e : n ≡ vertex_count game) where
    pub held_preorder : WellFormed game → PreorderMarks n marks
    unfolding game_of
    held_preorder well = rw e (holding_preorder held well.vertices (preorder_by (game_of game) mirror))

    pub held_total : class_count n (relation n marks) ≡ total_of (relation_by mirror) game
    unfolding game_of total_of
    held_total = rw e (holding_total held)

    pub held_words : tabulate n (class_number n (relation n marks)) ≡ words_of (relation_by mirror) game
    unfolding game_of words_of
    held_words = rw e (holding_words held)

-- ---- the order alone

-- what the order call leaves is the order
pub ordered_written : (game old : List ℕ) → marks_length (vertex_count game) ≤ length old → Ordered (game_of game) (written (order_bytes game) old)
unfolding relation_by marks_by
ordered_written = held_written false

-- at most one class a vertex
pub classes_few : (game : List ℕ) → WellFormed game → classes_in (game_of game) ≤ vertex_limit
classes_few game w = let G = game_of game in omega (arith, class_count_le G.n (order G) (order_preorder G), game_n game, w.vertices)

-- the marks after the order's passes
pub ordered_done : {game marks spare : List ℕ} {passes : ℕ} {marks' spare' : List ℕ} → marks_length (vertex_count game) ≤ length marks
    → OrderDone game marks spare passes marks' spare' → Ordered (game_of game) marks'
ordered_done {game = game} {marks = marks} h done = rw done.marks_after (ordered_written game marks h)

-- the classes of marks that hold the order are those of the game
module _ (game : List ℕ) {marks : List ℕ} (ordered : Ordered (game_of game) marks) {n : ℕ} (e : n ≡ vertex_count game) where
  pub ordered_preorder : WellFormed game → PreorderMarks n marks
  unfolding relation_by
  ordered_preorder = held_preorder false game ordered e

  pub ordered_words : tabulate n (class_number n (relation n marks)) ≡ class_words game
  unfolding game_of class_words class_of
  ordered_words = rw e (holding_words ordered)

  pub ordered_numbered : {k : ℕ} {classes reps : List ℕ} → Numbered n (relation n marks) n k classes reps
      → Numbered (game_of game).n (order (game_of game)) (game_of game).n k classes reps
  unfolding game_of
  ordered_numbered p = holding_numbered ordered (rw e at p)
