-- Laws of the governed calls: they refuse k at p exactly as the tables say; the acceptor passes exactly the governed bisimulations; what an accepted
-- call wrote is the largest of them, so that it contains all that the acceptor passes; both acceptors pass it.
use Rattle.std.specs.Prelude.{◌≡◌, ◌↔◌, List, [], ◌∷◌, ℕ, suc, ◌+◌, ◌*◌, ◌≤◌, ◌<◌}
use Rattle.std.proofs.Common.{sym, ◌∙◌, arith}
use Rattle.std.proofs.Math.Bool.{So}
use Rattle.theory.proofs.Logic.BoolsLaws.{and_in, and_out}
use Rattle.theory.proofs.Order.SimulationLaws.{moves_mono}
use Rattle.theory.specs.Order.Governed.{GovernedBisimulation, Bisimilar, governed, governed_passes}
use Rattle.theory.proofs.Order.GovernedLaws.{governed_in, governed_out, length_governed_marks, governed_passes_le}
use Rattle.table.specs.Table.{vertex_count, pair_count, game_of}
use Rattle.table.specs.TableLaws.{game_n}
use Rattle.table.specs.Answers.{accepted, refused}
use Rattle.table.specs.Rules.{FirstRule}
use Rattle.marks.specs.Marks.{is_mark, Marked, Clear}
use Rattle.marks.specs.MarksLaws.{marked_in, marked_out}
use Rattle.order.specs.OrderCall.{passes_answer}
use Rattle.order.specs.OrderRules.{order_rules, OrderFits}
use Rattle.order.specs.OrderRulesLaws.{passes_refused, passes_accepted, passes_accepts, marks_of, marks_clear, length_left, passes_bound}
use Rattle.order_acceptor.specs.RelationCall.{governed_pair, relation_answer}
use Rattle.order_acceptor.specs.RelationRulesLaws.{under, direct_is, acceptor_refused, acceptor_accepted, acceptor_accepts, relation_accepts}
use Rattle.governed.specs.GovernedCall.{GovernedCall, governed_answer}
use Rattle.governed.specs.GovernedRules.{Governed, governed_rules, GovernedPasses}

-- ---- the call that writes the largest one

module _ (g marks spare : List ℕ) where
  pub governed_refused : (k p : ℕ) → (passes_answer governed_passes g marks spare ≡ refused k p) ↔ FirstRule (order_rules g marks spare) k p
  governed_refused = passes_refused governed_passes g marks spare

  pub governed_accepted : (counts : List ℕ) → passes_answer governed_passes g marks spare ≡ accepted counts
      → OrderFits g marks spare × (counts ≡ governed_passes (game_of g) ∷ [])
  governed_accepted = passes_accepted governed_passes g marks spare

  pub governed_accepts : OrderFits g marks spare → passes_answer governed_passes g marks spare ≡ accepted (governed_passes (game_of g) ∷ [])
  governed_accepts = passes_accepts governed_passes g marks spare

module _ {game marks spare counts marks' spare' : List ℕ} (call : GovernedCall game marks spare (accepted counts) marks' spare') where
  pub written_governed : (v w : ℕ) → v < vertex_count game → w < vertex_count game
      → is_mark marks' (v * vertex_count game + w) ≡ governed (game_of game) v w
  unfolding governed
  written_governed = marks_of length_governed_marks game marks spare counts marks' spare' call

  module _ (v w : ℕ) (hv : v < vertex_count game) (hw : w < vertex_count game) where
    -- set exactly if some governed bisimulation holds the pair
    pub marked_bisimilar : Marked (vertex_count game) marks' v w → Bisimilar (game_of game) v w
    marked_bisimilar e = governed_out (game_of game) (sym (written_governed v w hv hw) ∙ e)

    pub bisimilar_marked : Bisimilar (game_of game) v w → Marked (vertex_count game) marks' v w
    bisimilar_marked b = written_governed v w hv hw ∙ governed_in (game_of game) (rw (game_n game) hv) (rw (game_n game) hw) b

  -- at most n × n - n + 1 passes
  pub governed_bound : (c : ℕ) → counts ≡ c ∷ [] → c + vertex_count game ≤ suc (pair_count game)
  governed_bound = passes_bound length_governed_marks game marks spare counts marks' spare' call governed_passes_le

-- ---- the acceptor

module _ (g marks : List ℕ) where
  governed_is : (v w : ℕ) → So (under g marks governed_pair v w) ↔ Governed g marks v w
  unfolding governed_pair
  governed_is v w = (
    λ t. let a = and_out t in record { direct = (direct_is g marks v w).0 a.0; reverse = marked_out (vertex_count g) marks w v a.1 },
    λ p. and_in ((direct_is g marks v w).1 p.direct) (marked_in (vertex_count g) marks w v p.reverse),
  )

  pub acceptor_governed_refused : (k p : ℕ) → (governed_answer g marks ≡ refused k p) ↔ FirstRule (governed_rules g marks) k p
  acceptor_governed_refused = acceptor_refused governed_pair g marks _ governed_is

  -- accepted exactly if the marked pairs form a governed bisimulation
  pub acceptor_governed_accepted : governed_answer g marks ≡ accepted [] → GovernedPasses g marks
  acceptor_governed_accepted e =
      let p = acceptor_accepted governed_pair g marks _ governed_is e in record {
        game = p.game;
        fits = p.fits;
        clear = p.clear;
        governed = record {
          simulation = λ v w hv hw m. (p.each v w (rw (game_n g) at hv) (rw (game_n g) at hw) m).direct;
          symmetric = λ v w hv hw m. (p.each v w (rw (game_n g) at hv) (rw (game_n g) at hw) m).reverse;
        };
      }

  pub acceptor_governed_accepts : GovernedPasses g marks → governed_answer g marks ≡ accepted []
  acceptor_governed_accepts r =
      acceptor_accepts governed_pair g marks _ governed_is
      (record {
        game = r.game;
        fits = r.fits;
        clear = r.clear;
        each = λ v w hv hw m.
            let kv : v < (game_of g).n = rw (game_n g) hv in
            let kw : w < (game_of g).n = rw (game_n g) hw in
            record { direct = r.governed.simulation v w kv kw m; reverse = r.governed.symmetric v w kv kw m };
      })

  -- all that is passed lies in the largest one
  pub passed_bisimilar : governed_answer g marks ≡ accepted [] → (v w : ℕ) → Marked (vertex_count g) marks v w → Bisimilar (game_of g) v w
  passed_bisimilar e v w m = record { relation = Marked (vertex_count g) marks; governed = (acceptor_governed_accepted e).governed; holds = m }

  pub passed_governed : governed_answer g marks ≡ accepted [] → {marks₀ spare counts marks' spare' : List ℕ}
      → GovernedCall g marks₀ spare (accepted counts) marks' spare'
      → (v w : ℕ) → v < vertex_count g → w < vertex_count g → Marked (vertex_count g) marks v w → Marked (vertex_count g) marks' v w
  passed_governed e call v w hv hw m = bisimilar_marked call v w hv hw (passed_bisimilar e v w m)

-- ---- what is written passes both acceptors

module _ {g marks spare counts marks' spare' : List ℕ} (call : GovernedCall g marks spare (accepted counts) marks' spare') where
  fits : OrderFits g marks spare
  fits = (governed_accepted g marks spare counts (sym call.verdict)).0

  clear : Clear marks' (pair_count g)
  clear = marks_clear length_governed_marks g marks spare counts marks' spare' call

  bisimulation : GovernedBisimulation (game_of g) (Marked (vertex_count g) marks')
  bisimulation = record {
    simulation = λ v w hv hw m.
        let b = marked_bisimilar call v w (rw (game_n g) at hv) (rw (game_n g) at hw) m in
        let q = b.governed.simulation v w hv hw b.holds in record {
          equal = q.equal;
          moves =
              moves_mono _ _ _ _ _ _
              (λ x y s t r.
              bisimilar_marked call x y (rw (game_n g) at s.inside) (rw (game_n g) at t.inside)
              (record { relation = b.relation; governed = b.governed; holds = r }))
              q.moves;
        };
    symmetric = λ v w hv hw m.
        let b = marked_bisimilar call v w (rw (game_n g) at hv) (rw (game_n g) at hw) m in
        bisimilar_marked call w v (rw (game_n g) at hw) (rw (game_n g) at hv)
        (record { relation = b.relation; governed = b.governed; holds = b.governed.symmetric v w hv hw b.holds });
  }

  pub written_accepted : governed_answer g marks' ≡ accepted []
  written_accepted = acceptor_governed_accepts g marks' (record {
    game = fits.game;
    fits = omega (arith, fits.marks_fit, length_left length_governed_marks g marks spare counts marks' spare' call);
    clear = clear;
    governed = bisimulation;
  })

  -- the order's acceptor passes it too
  pub written_relation : relation_answer g marks' ≡ accepted []
  written_relation = relation_accepts g marks' (record {
    game = fits.game;
    fits = omega (arith, fits.marks_fit, length_left length_governed_marks g marks spare counts marks' spare' call);
    clear = clear;
    simulation = bisimulation.simulation;
  })
