-- Laws of the relation acceptor: it refuses k at p exactly as document 01's table says, passes exactly the direct simulations, and all
-- that it passes lies in the written order.
use Rattle.std.specs.Prelude.{◌≡◌, ◌↔◌, Bool, ℕ, ◌+◌, ◌-◌, ◌*◌, ◌/◌, ◌%◌, ◌≤◌, ◌<◌, length, get_or}
use Rattle.std.proofs.Math.Path.{refl, subst₂}
use Rattle.std.proofs.Common.{sym, arith}
use Rattle.std.proofs.Math.Logic.{inl, inr}
use Rattle.std.proofs.Math.Bool.{false, So}
use mathlib.Core.List.{List, []}
use Rattle.std.proofs.Math.Arith.{digits_lt, digits_div, digits_mod}
use borrow.Author.Tests.{ltb-false, le-ltb}
use Rattle.theory.proofs.Logic.BoolsLaws.{clash, decide, So_not, and_in, and_out, not_in, not_out}
use Rattle.theory.proofs.Logic.RangeLaws.{none_found, found_none}
use Rattle.theory.proofs.Logic.CountLaws.{row_lt, col_lt}
use Rattle.theory.specs.Order.Passes.{Rel}
use Rattle.theory.specs.Games.Game.{even, Game}
use Rattle.theory.specs.Order.Simulation.{Below}
use Rattle.theory.proofs.Order.SimulationLaws.{moves_mono}
use Rattle.theory.proofs.Order.OrderLaws.{passes_in, passes_out, length_order_marks}
use Rattle.table.specs.Table.{vertex_count, game_of}
use Rattle.table.specs.TableLaws.{game_n}
use Rattle.table.specs.Answers.{accepted, refused}
use Rattle.table.specs.AnswersLaws.{judge_clean, judge_accepted, clean_append, clean_split}
use Rattle.table.specs.Reading.{game_rows}
use Rattle.table.specs.ReadingLaws.{rows_render, well_clean, clean_well}
use Rattle.table.specs.Rules.{FirstRule, Rendered, none, next}
use Rattle.table.specs.RulesLaws.{memory_renders, renders_placed, renders_first, refused_by, rendered_append}
use Rattle.table.specs.WellFormed.{WellFormed}
use Rattle.marks.specs.Marks.{marks_length, relation, Marked, has_unused}
use Rattle.marks.specs.MarksLaws.{marked_in, marked_out, zero_mark, clear_in, clear_out, unused_says}
use Rattle.order.specs.OrderCall.{OrderCall}
use Rattle.order.specs.OrderRulesLaws.{order_accepted, length_marks, marks_clear, marked_below, below_marked}
use Rattle.order_acceptor.specs.RelationCall.{direct_pair, fails, first_failing, acceptor_rows, acceptor_answer, relation_answer}
use Rattle.order_acceptor.specs.RelationRules.{Fails, acceptor_rules, AcceptorPasses, Direct, relation_rules, RelationPasses}

-- ---- the test as a Bool and as a type

module _ (g marks : List ℕ) where
  -- what is asked of a pair under the marks
  abbrev pub under : (Game → Rel → Rel) → ℕ → ℕ → Bool
  under asked = asked (game_of g) (relation (vertex_count g) marks)

  direct_out : (v w : ℕ) → So (under direct_pair v w) → Direct g marks v w
  unfolding direct_pair
  direct_out v w t =
      let a = and_out t in
      let p = passes_out even (game_of g) (game_of g) (relation (vertex_count g) marks) v w a.0 a.1 in
      record { equal = p.equal; moves = moves_mono _ _ _ _ _ _ (λ x y s u. marked_out (vertex_count g) marks x y) p.moves }

  direct_in : (v w : ℕ) → Direct g marks v w → So (under direct_pair v w)
  unfolding direct_pair
  direct_in v w p =
      let q =
      passes_in even (game_of g) (game_of g) (relation (vertex_count g) marks) v w
      (record { equal = p.equal; moves = moves_mono _ _ _ _ _ _ (λ x y s u. marked_in (vertex_count g) marks x y) p.moves }) in
      and_in q.0 q.1

  pub direct_is : (v w : ℕ) → So (under direct_pair v w) ↔ Direct g marks v w
  direct_is v w = (direct_out v w, direct_in v w)

-- ---- whatever is asked of a marked pair

module _ (asked : Game → Rel → Rel) (g marks : List ℕ) (Asked : ℕ → ℕ → Type 0) (is : (v w : ℕ) → So (under g marks asked v w) ↔ Asked v w) where
  fails_is : (v w : ℕ) → So (fails asked g marks v w) ↔ Fails Asked g marks v w
  unfolding fails
  fails_is v w = (
    λ t. let a = and_out t in record { marked = marked_out (vertex_count g) marks v w a.0; failing = λ p. clash ((is v w).1 p) (not_out a.1) },
    λ f. and_in (marked_in (vertex_count g) marks v w f.marked) (not_in (So_not (λ t. f.failing ((is v w).0 t)))),
  )

  rows_render_asked : Rendered (acceptor_rows asked g marks) (acceptor_rules Asked g marks)
  unfolding acceptor_rows first_failing
  rows_render_asked =
      let n = vertex_count g in
      rendered_append (rows_render g)
      (next (memory_renders 21 _ marks)
      (next (renders_placed 41 (marks_length n - 1) (has_unused marks (n * n)) _ (unused_says marks (n * n)))
      (next
      (renders_first 10 (λ i. fails asked g marks (i / n) (i % n)) (λ i. Fails Asked g marks (i / n) (i % n)) 0 (n * n) (λ i. i) (omega arith)
      (λ i. fails_is (i / n) (i % n)))
      none)))

  -- refused exactly by the table
  pub acceptor_refused : (k p : ℕ) → (acceptor_answer asked g marks ≡ refused k p) ↔ FirstRule (acceptor_rules Asked g marks) k p
  unfolding acceptor_answer
  acceptor_refused = refused_by _ rows_render_asked refl

  -- accepted exactly if every marked pair passes
  pub acceptor_accepted : acceptor_answer asked g marks ≡ accepted [] → AcceptorPasses Asked g marks
  unfolding acceptor_answer acceptor_rows first_failing
  acceptor_accepted e =
      let n = vertex_count g in
      let c = clean_split (game_rows g) _ (judge_accepted _ [] [] e).0 in
      record {
        game = clean_well g c.0;
        fits = ltb-false (length marks) (marks_length n) c.1.0;
        clear = clear_out marks (n * n) c.1.1.0;
        each = λ v w hv hw m.
            let f : fails asked g marks v w ≡ false =
            subst₂ (λ (x y : ℕ). fails asked g marks x y ≡ false) (digits_div v hw) (digits_mod v hw)
            (none_found _ (n * n) c.1.1.1.0 (v * n + w) (digits_lt hv hw)) in
            elim (decide (under g marks asked v w)) [
              | inl t ↦ (is v w).0 t
              | inr t ↦ clash ((fails_is v w).1 (record { marked = m; failing = λ p. clash ((is v w).1 p) t })) f
            ];
      }

  pub acceptor_accepts : AcceptorPasses Asked g marks → acceptor_answer asked g marks ≡ accepted []
  unfolding acceptor_answer acceptor_rows first_failing
  acceptor_accepts r =
      let n = vertex_count g in
      judge_clean _ []
      (clean_append (game_rows g) _ (well_clean g r.game) (
        le-ltb (length marks) (marks_length n) r.fits,
        (
          clear_in marks (n * n) r.clear,
          (
            found_none _ (n * n)
                (λ i h. So_not (λ t.
                let f = (fails_is (i / n) (i % n)).0 t in
                f.failing (r.each (i / n) (i % n) (row_lt n n i h) (col_lt n n i h) f.marked))),
            tt,
          ),
        ),
      ))

  -- the empty relation passes
  pub empty_accepted : WellFormed g → marks_length (vertex_count g) ≤ length marks → ((j : ℕ) → j < marks_length (vertex_count g) → get_or marks j 0 ≡ 0)
      → acceptor_answer asked g marks ≡ accepted []
  empty_accepted well fit zero = acceptor_accepts (record {
    game = well;
    fits = fit;
    clear = λ i l h. zero_mark marks i (zero (i / 8) (omega (arith, h)));
    each = λ v w hv hw m. let l = digits_lt hv hw in clash m (zero_mark marks _ (zero _ (omega (arith, l))));
  })

-- ---- direct simulations

pub relation_refused : (g marks : List ℕ) (k p : ℕ) → (relation_answer g marks ≡ refused k p) ↔ FirstRule (relation_rules g marks) k p
relation_refused g marks = acceptor_refused direct_pair g marks _ (direct_is g marks)

module _ (g marks : List ℕ) where
  pub relation_accepted : relation_answer g marks ≡ accepted [] → RelationPasses g marks
  relation_accepted e =
      let p = acceptor_accepted direct_pair g marks _ (direct_is g marks) e in
      record { game = p.game; fits = p.fits; clear = p.clear; simulation = λ v w hv hw m. p.each v w (rw (game_n g) at hv) (rw (game_n g) at hw) m }

  pub relation_accepts : RelationPasses g marks → relation_answer g marks ≡ accepted []
  relation_accepts r =
      acceptor_accepts direct_pair g marks _ (direct_is g marks)
      (record { game = r.game; fits = r.fits; clear = r.clear; each = λ v w hv hw m. r.simulation v w (rw (game_n g) hv) (rw (game_n g) hw) m })

  -- ---- all that is passed lies in the written order

  pub passed_below : relation_answer g marks ≡ accepted [] → (v w : ℕ) → Marked (vertex_count g) marks v w → Below even (game_of g) (game_of g) v w
  passed_below e v w m = record { relation = Marked (vertex_count g) marks; simulation = (relation_accepted e).simulation; holds = m }

  pub passed_written : relation_answer g marks ≡ accepted [] → (marks₀ spare counts marks' spare' : List ℕ) → OrderCall g marks₀ spare (accepted counts) marks' spare'
      → (v w : ℕ) → v < vertex_count g → w < vertex_count g → Marked (vertex_count g) marks v w → Marked (vertex_count g) marks' v w
  passed_written e marks₀ spare counts marks' spare' call v w hv hw m = below_marked g marks₀ spare counts marks' spare' call v w hv hw (passed_below e v w m)

  -- ---- the empty relation passes

  pub empty_passes : WellFormed g → marks_length (vertex_count g) ≤ length marks → ((j : ℕ) → j < marks_length (vertex_count g) → get_or marks j 0 ≡ 0)
      → relation_answer g marks ≡ accepted []
  empty_passes = empty_accepted direct_pair g marks _ (direct_is g marks)

-- ---- the written order passes

module _ (g marks spare counts marks' spare' : List ℕ) (call : OrderCall g marks spare (accepted counts) marks' spare') where
  pub written_passes : relation_answer g marks' ≡ accepted []
  written_passes =
      let f = (order_accepted g marks spare counts (sym call.verdict)).0 in
      relation_accepts g marks' (record {
        game = f.game;
        fits = omega (arith, f.marks_fit, length_marks g marks spare counts marks' spare' call);
        clear = marks_clear length_order_marks g marks spare counts marks' spare' call;
        simulation = λ v w hv hw m.
            let b = marked_below g marks spare counts marks' spare' call v w (rw (game_n g) at hv) (rw (game_n g) at hw) m in
            let q = b.simulation v w hv hw b.holds in
            record {
              equal = q.equal;
              moves =
                  moves_mono _ _ _ _ _ _
                  (λ x y s t r.
                  below_marked g marks spare counts marks' spare' call x y (rw (game_n g) at s.inside) (rw (game_n g) at t.inside)
                  (record { relation = b.relation; simulation = b.simulation; holds = r }))
                  q.moves;
            };
      })
