-- Laws of the order call: it refuses k at p exactly as document 01's table says, accepts exactly otherwise, and what an accepted call
-- wrote is the order of the table's game.
use Rattle.std.specs.Prelude.{◌≡◌, ◌↔◌, List, [], ◌∷◌, ℕ, suc, ◌+◌, ◌*◌, ◌≤◌, ◌<◌, length, get_or}
use Rattle.std.proofs.Math.Path.{refl, sym, ap}
use Rattle.std.proofs.Common.{subst, ◌∙◌, arith}
use Rattle.std.proofs.Math.Arith.{digits_lt}
use borrow.Author.Tests.{ltb-false, le-ltb}
use Rattle.theory.specs.Order.Passes.{Marks, marked, rel_of}
use Rattle.theory.specs.Games.Game.{even, Game}
use Rattle.theory.specs.Order.Simulation.{Below}
use Rattle.theory.specs.Order.Order.{order, order_marks, order_passes}
use Rattle.theory.proofs.Order.OrderLaws.{order_in, order_out, length_order_marks}
use Rattle.table.specs.Table.{vertex_count, pair_count, game_of}
use Rattle.table.specs.TableLaws.{game_n}
use Rattle.table.specs.Answers.{accepted, refused, written}
use Rattle.table.specs.AnswersLaws.{judge_clean, judge_accepted, length_written, get_d_written_beyond, after_accepted, after_refused, clean_append, clean_split}
use Rattle.table.specs.Reading.{game_rows}
use Rattle.table.specs.ReadingLaws.{rows_render, well_clean, clean_well}
use Rattle.table.specs.Rules.{FirstRule, Rendered, none, next}
use Rattle.table.specs.RulesLaws.{memory_renders, refused_by, rendered_append}
use Rattle.marks.specs.Marks.{bytes_for, marks_length, is_mark, Marked, Clear}
use Rattle.marks.specs.MarksLaws.{length_bytes, mark_written, clear_written}
use Rattle.order.specs.OrderCall.{order_rows, passes_answer, order_answer, bytes_of, order_bytes, MarksCall, OrderCall}
use Rattle.order.specs.OrderRules.{order_rules, OrderFits}

-- ---- refused exactly by the table

pub order_rows_render : (g marks spare : List ℕ) → Rendered (order_rows g marks spare) (order_rules g marks spare)
unfolding order_rows
order_rows_render g marks spare = rendered_append (rows_render g) (next (memory_renders 21 _ marks) (next (memory_renders 22 _ spare) none))

-- whatever relation the passes leave
module _ (passes : Game → ℕ) (g marks spare : List ℕ) where
  pub passes_refused : (k p : ℕ) → (passes_answer passes g marks spare ≡ refused k p) ↔ FirstRule (order_rules g marks spare) k p
  unfolding passes_answer
  passes_refused = refused_by _ (order_rows_render g marks spare) refl

  -- ---- accepted exactly otherwise, with the pass count

  pub passes_accepted : (counts : List ℕ) → passes_answer passes g marks spare ≡ accepted counts
      → OrderFits g marks spare × (counts ≡ passes (game_of g) ∷ [])
  unfolding passes_answer order_rows
  passes_accepted counts e =
      let a = judge_accepted _ _ counts e in
      let c = clean_split (game_rows g) _ a.0 in
      (record { game = clean_well g c.0; marks_fit = ltb-false (length marks) _ c.1.0; spare_fit = ltb-false (length spare) _ c.1.1.0 }, sym a.1)

  pub passes_accepts : OrderFits g marks spare → passes_answer passes g marks spare ≡ accepted (passes (game_of g) ∷ [])
  unfolding passes_answer order_rows
  passes_accepts f =
      judge_clean _ _
      (clean_append (game_rows g) _ (well_clean g f.game) (le-ltb (length marks) _ f.marks_fit, (le-ltb (length spare) _ f.spare_fit, tt)))

-- the order call
pub order_refused : (g marks spare : List ℕ) (k p : ℕ) → (order_answer g marks spare ≡ refused k p) ↔ FirstRule (order_rules g marks spare) k p
order_refused = passes_refused order_passes

pub order_accepted : (g marks spare counts : List ℕ) → order_answer g marks spare ≡ accepted counts
    → OrderFits g marks spare × (counts ≡ order_passes (game_of g) ∷ [])
order_accepted = passes_accepted order_passes

pub order_accepts : (g marks spare : List ℕ) → OrderFits g marks spare → order_answer g marks spare ≡ accepted (order_passes (game_of g) ∷ [])
order_accepts = passes_accepts order_passes

-- ---- what an accepted call wrote

-- a relation whose marks are as many as the pairs
abbrev pub AllPairs : (Game → Marks) → Type 0
AllPairs relation = (G : Game) → length (relation G) ≡ G.n * G.n

module _ (relation : Game → Marks) (long : AllPairs relation) (game : List ℕ) where
  pub length_bytes_of : length (bytes_of relation game) ≡ marks_length (vertex_count game)
  length_bytes_of = rw (← game_n game) (length_bytes (relation (game_of game)) ∙ ap bytes_for (long (game_of game)))

  pairs_of_lem : length (relation (game_of game)) ≡ pair_count game
  pairs_of_lem = rw (← game_n game) (long (game_of game))

  -- a buffer that holds the relation: the mark of (v, w), unused bits, and bytes beyond
  module _ (old : List ℕ) where
    pub mark_of : (v w : ℕ) → v < vertex_count game → w < vertex_count game
        → is_mark (written (bytes_of relation game) old) (v * vertex_count game + w) ≡ rel_of (game_of game).n (marked (relation (game_of game))) v w
    unfolding rel_of
    mark_of v w hv hw =
        mark_written (relation (game_of game)) old (v * vertex_count game + w) (omega (arith, pairs_of_lem, digits_lt hv hw))
        ∙ ap (λ (n : ℕ). marked (relation (game_of game)) (v * n + w)) (sym (game_n game))

    written_clear : Clear (written (bytes_of relation game) old) (pair_count game)
    written_clear = rw (← pairs_of_lem) (clear_written (relation (game_of game)) old)

    written_beyond : (i : ℕ) → marks_length (vertex_count game) ≤ i → get_or (written (bytes_of relation game) old) i 0 ≡ get_or old i 0
    written_beyond i h = get_d_written_beyond (bytes_of relation game) old i 0 (rw length_bytes_of h)

pub length_order_bytes : (game : List ℕ) → length (order_bytes game) ≡ marks_length (vertex_count game)
length_order_bytes = length_bytes_of order_marks length_order_marks

pub written_mark : (game old : List ℕ) (v w : ℕ) → v < vertex_count game → w < vertex_count game
    → is_mark (written (order_bytes game) old) (v * vertex_count game + w) ≡ order (game_of game) v w
unfolding order
written_mark = mark_of order_marks length_order_marks

module _ {relation : Game → Marks} {passes : Game → ℕ} (long : AllPairs relation) (game marks spare counts marks' spare' : List ℕ)
    (call : MarksCall relation passes game marks spare (accepted counts) marks' spare') where
  marks_hold : marks' ≡ written (bytes_of relation game) marks
  unfolding passes_answer
  marks_hold = call.marks_after ∙ after_accepted (order_rows game marks spare) _ (bytes_of relation game) marks (sym call.verdict)

  spare_holds : spare' ≡ written (bytes_of relation game) spare
  unfolding passes_answer
  spare_holds = call.spare_after ∙ after_accepted (order_rows game marks spare) _ (bytes_of relation game) spare (sym call.verdict)

  -- both hold the marks
  module _ (v w : ℕ) (hv : v < vertex_count game) (hw : w < vertex_count game) where
    pub marks_of : is_mark marks' (v * vertex_count game + w) ≡ rel_of (game_of game).n (marked (relation (game_of game))) v w
    marks_of = rw marks_hold (mark_of relation long game marks v w hv hw)

    pub spare_of : is_mark spare' (v * vertex_count game + w) ≡ rel_of (game_of game).n (marked (relation (game_of game))) v w
    spare_of = rw spare_holds (mark_of relation long game spare v w hv hw)

  pub length_left : length marks' ≡ length marks
  length_left =
      let f = (passes_accepted passes game marks spare counts (sym call.verdict)).0 in
      ap length marks_hold ∙ length_written (bytes_of relation game) marks (omega (arith, f.marks_fit, length_bytes_of relation long game))

  -- no unused bit is set, and bytes beyond are old
  pub marks_clear : Clear marks' (pair_count game)
  marks_clear = rw marks_hold (written_clear relation long game marks)

  pub spare_clear : Clear spare' (pair_count game)
  spare_clear = rw spare_holds (written_clear relation long game spare)

  pub beyond_marks : (i : ℕ) → marks_length (vertex_count game) ≤ i → get_or marks' i 0 ≡ get_or marks i 0
  beyond_marks i h = rw marks_hold (written_beyond relation long game marks i h)

  pub beyond_spare : (i : ℕ) → marks_length (vertex_count game) ≤ i → get_or spare' i 0 ≡ get_or spare i 0
  beyond_spare i h = rw spare_holds (written_beyond relation long game spare i h)

  -- at most n × n - n + 1 passes, where the relation's are
  pub passes_bound : ((G : Game) → passes G + G.n ≤ suc (G.n * G.n)) → (c : ℕ) → counts ≡ c ∷ [] → c + vertex_count game ≤ suc (pair_count game)
  passes_bound few c e =
      let q : passes (game_of game) ≡ c = cc ((passes_accepted passes game marks spare counts (sym call.verdict)).1, e) in
      rw (← q) (subst (λ (n : ℕ). passes (game_of game) + n ≤ suc (n * n)) (game_n game) (few (game_of game)))

  -- marks and spare may change places
  pub marks_swapped : MarksCall relation passes game spare marks (accepted counts) spare' marks'
  unfolding passes_answer
  marks_swapped =
      let a = passes_accepted passes game marks spare counts (sym call.verdict) in
      let e = passes_accepts passes game spare marks (record { game = a.0.game; marks_fit = a.0.spare_fit; spare_fit = a.0.marks_fit }) in record {
        verdict = cc (a.1, e);
        marks_after = spare_holds ∙ sym (after_accepted (order_rows game spare marks) _ (bytes_of relation game) spare e);
        spare_after = marks_hold ∙ sym (after_accepted (order_rows game spare marks) _ (bytes_of relation game) marks e);
      }

-- a refused call left both buffers as they were
pub refused_old : {relation : Game → Marks} {passes : Game → ℕ} (game marks spare : List ℕ) (k p : ℕ) (marks' spare' : List ℕ)
    → MarksCall relation passes game marks spare (refused k p) marks' spare' → (marks' ≡ marks) × (spare' ≡ spare)
unfolding passes_answer
refused_old {relation} game marks spare k p marks' spare' call = (
  call.marks_after ∙ after_refused (order_rows game marks spare) _ (bytes_of relation game) marks (sym call.verdict),
  call.spare_after ∙ after_refused (order_rows game marks spare) _ (bytes_of relation game) spare (sym call.verdict),
)

-- ---- the order

module _ (game marks spare counts marks' spare' : List ℕ) (call : OrderCall game marks spare (accepted counts) marks' spare') where
  module _ (v w : ℕ) (hv : v < vertex_count game) (hw : w < vertex_count game) where
    pub written_marks : is_mark marks' (v * vertex_count game + w) ≡ order (game_of game) v w
    unfolding order
    written_marks = marks_of length_order_marks game marks spare counts marks' spare' call v w hv hw

    -- set exactly if some direct simulation holds the pair
    pub marked_below : Marked (vertex_count game) marks' v w → Below even (game_of game) (game_of game) v w
    marked_below e = order_out (game_of game) (sym written_marks ∙ e)

    pub below_marked : Below even (game_of game) (game_of game) v w → Marked (vertex_count game) marks' v w
    below_marked b = written_marks ∙ order_in (game_of game) (rw (game_n game) hv) (rw (game_n game) hw) b

  pub length_marks : length marks' ≡ length marks
  length_marks = length_left length_order_marks game marks spare counts marks' spare' call
