-- The marks of the passes are the largest governed bisimulation: marked exactly when some governed bisimulation holds the pair. They are an
-- equivalence, and lie in the order both ways: so each governed class lies in one class of the order, and winners transfer along them.
use Rattle.std.specs.Prelude.{◌≡◌, ◌⊎◌, ◌↔◌, Bool, ℕ, suc, ◌+◌, ◌*◌, ◌≤◌, ◌<◌, length}
use Rattle.std.proofs.Math.Path.{refl}
use Rattle.std.proofs.Common.{sym, ◌∙◌, inl, inr}
use Rattle.std.proofs.Math.Bool.{true, false, So}
use borrow.Author.Tests.{eq-eqb}
use Rattle.theory.proofs.Logic.BoolsLaws.{eqb_flip, and_in, and_out}
use Rattle.theory.specs.Order.Passes.{marked, rel_of, pair_start, pair_test, pass_count, final_marks, largest}
use Rattle.theory.proofs.Order.PassesLaws.{length_final_marks, largest_start, largest_fixed, largest_contains, passes_le}
use Rattle.theory.specs.Games.Game.{Player, even, Game, own, Succ}
use Rattle.theory.specs.Order.Simulation.{PassesTest, Compose}
use Rattle.theory.proofs.Order.SimulationLaws.{moves_mono, simulation_refl, simulation_compose}
use Rattle.theory.specs.Order.Order.{equal_priority, marks_between, order_marks, order, order_passes, Holds, Preorder}
use Rattle.theory.proofs.Order.OrderLaws.{passes_out, test_holds, order_largest, order_out, length_order_marks}
use Rattle.theory.specs.Order.Governed.{GovernedBisimulation, Bisimilar, governed_test, governed_marks, governed, governed_passes, Equivalence, test_by, marks_by, relation_by, passes_by}
use Rattle.theory.specs.Plans.Plan.{Won}
use Rattle.theory.specs.Classes.Reduction.{same_class, class_number, class_of}
use Rattle.theory.proofs.Classes.ClassLaws.{class_number_same, same_class_le}
use Rattle.theory.proofs.Classes.QuotientLaws.{order_preorder}
use Rattle.theory.proofs.Winners.KeptWinners.{mutual_winner}

module _ (g : Game) where
  -- ---- the largest governed bisimulation

  -- a marked pair and its reverse pass the test
  pair_passes : (v w : ℕ) → v < g.n → w < g.n → So (governed g v w)
      → PassesTest even g g (Holds (governed g)) v w × PassesTest even g g (Holds (governed g)) w v
  unfolding governed governed_marks largest governed_test equal_priority
  pair_passes v w hv hw t =
      let e = largest_start g.n g.n (governed_test g) (equal_priority g g) v w hv hw t in
      let p = and_out (largest_fixed g.n g.n (governed_test g) (equal_priority g g) v w hv hw t) in
      (passes_out even g g (governed g) v w e p.0, passes_out even g g (governed g) w v (eqb_flip (g.priority w) (g.priority v) ∙ e) p.1)

  pub governed_largest : (H : ℕ → ℕ → Type 0) → GovernedBisimulation g H → (v w : ℕ) → v < g.n → w < g.n → H v w → So (governed g v w)
  unfolding governed governed_marks largest governed_test equal_priority
  governed_largest H b =
      largest_contains g.n g.n (governed_test g) (equal_priority g g) H
      (λ v w hv hw r. eq-eqb _ _ (b.simulation v w hv hw r).equal)
      (λ m c v w hv hw r.
      and_in (test_holds even g g H m c v w (b.simulation v w hv hw r))
      (test_holds even g g H m c w v (b.simulation w v hw hv (b.symmetric v w hv hw r))))

  -- the marks and their reverses together are a governed bisimulation, so that the marks hold their reverses
  abbrev either : ℕ → ℕ → Type 0
  either v w = So (governed g v w) ⊎ So (governed g w v)

  wider : (v w : ℕ) → PassesTest even g g (Holds (governed g)) v w → PassesTest even g g either v w
  wider v w p = record { equal = p.equal; moves = moves_mono (own g even v) (own g even w) (Succ g v) (Succ g w) _ either (λ x y s t r. inl r) p.moves }

  either_governed : GovernedBisimulation g either
  either_governed = record { simulation = passes; symmetric = turn }
    where
      passes : (v w : ℕ) → v < g.n → w < g.n → either v w → PassesTest even g g either v w
      passes v w hv hw (inl t) = wider v w (pair_passes v w hv hw t).0
      passes v w hv hw (inr t) = wider v w (pair_passes w v hw hv t).1

      turn : (v w : ℕ) → v < g.n → w < g.n → either v w → either w v
      turn v w hv hw (inl t) = inr t
      turn v w hv hw (inr t) = inl t

  pub governed_sym : (v w : ℕ) → v < g.n → w < g.n → So (governed g v w) → So (governed g w v)
  governed_sym v w hv hw t = governed_largest either either_governed w v hw hv (inr t)

  pub governed_bisimulation : GovernedBisimulation g (Holds (governed g))
  governed_bisimulation = record { simulation = λ v w hv hw t. (pair_passes v w hv hw t).0; symmetric = governed_sym }

  -- so: marked exactly when some governed bisimulation holds the pair
  pub governed_in : {v w : ℕ} → v < g.n → w < g.n → Bisimilar g v w → So (governed g v w)
  governed_in {v} {w} hv hw b = governed_largest b.relation b.governed v w hv hw b.holds

  pub governed_out : {v w : ℕ} → So (governed g v w) → Bisimilar g v w
  governed_out t = record { relation = Holds (governed g); governed = governed_bisimulation; holds = t }

  -- ---- an equivalence

  pub governed_refl : (v : ℕ) → v < g.n → So (governed g v v)
  governed_refl v h =
      governed_largest (λ v w. v ≡ w) (record { simulation = simulation_refl even g; symmetric = λ v w hv hw e. sym e }) v v h h refl

  pub governed_trans : (v u w : ℕ) → v < g.n → u < g.n → w < g.n → So (governed g v u) → So (governed g u w) → So (governed g v w)
  governed_trans v u w hv hu hw p q =
      governed_largest (Compose (λ x. x < g.n) (Holds (governed g)) (Holds (governed g)))
      (record {
        simulation = simulation_compose even g g g _ _ governed_bisimulation.simulation governed_bisimulation.simulation;
        symmetric = λ v w hv hw r. (r.0, r.1, governed_sym r.0 w r.1 hw r.3, governed_sym v r.0 hv r.1 r.2);
      })
      v w hv hw (u, hu, p, q)

  pub governed_equivalence : Equivalence g.n (governed g)
  governed_equivalence = record { preorder = record { reflexive = governed_refl; transitive = governed_trans }; symmetric = governed_sym }

  pub length_governed_marks : length (governed_marks g) ≡ g.n * g.n
  unfolding governed_marks
  length_governed_marks = length_final_marks (g.n * g.n) (pair_test g.n (governed_test g)) (pair_start g.n (equal_priority g g))

  -- at most n × n - n + 1 passes
  pub governed_passes_le : governed_passes g + g.n ≤ suc (g.n * g.n)
  unfolding governed_passes governed governed_marks
  governed_passes_le = passes_le g.n (governed_test g) (equal_priority g g) (unfold largest in governed_refl)

  -- ---- inside the order, both ways

  pub governed_order : (v w : ℕ) → v < g.n → w < g.n → So (governed g v w) → So (order g v w)
  governed_order v w hv hw t = order_largest g (Holds (governed g)) governed_bisimulation.simulation v w hv hw t

  governed_mutual : (v w : ℕ) → v < g.n → w < g.n → So (governed g v w) → So (same_class (order g) v w)
  unfolding same_class
  governed_mutual v w hv hw t = and_in (governed_order v w hv hw t) (governed_order w v hw hv (governed_sym v w hv hw t))

  -- each governed class lies inside one class of the order
  pub governed_class : (v w : ℕ) → v < g.n → w < g.n → class_number g.n (governed g) v ≡ class_number g.n (governed g) w → class_of g v ≡ class_of g w
  unfolding class_of
  governed_class v w hv hw e =
      let s = (class_number_same g.n (governed g) governed_equivalence.preorder v w hv hw).0 e in
      (class_number_same g.n (order g) (order_preorder g) v w hv hw).1 (governed_mutual v w hv hw (same_class_le (governed g) v w s))

  -- transfer of winners along it
  pub governed_winner : (a : Player) (v w : ℕ) → v < g.n → w < g.n → So (governed g v w) → Won a g v ↔ Won a g w
  governed_winner a v w hv hw t =
      mutual_winner a g g v w hv hw (order_out g (governed_order v w hv hw t)) (order_out g (governed_order w v hw hv (governed_sym v w hv hw t)))

  -- ---- either relation

  pub passes_by_lem : (mirror : Bool) → pass_count (g.n * g.n) (pair_test g.n (test_by mirror g)) (pair_start g.n (equal_priority g g)) ≡ passes_by mirror g
  unfolding test_by passes_by order_passes governed_passes
  passes_by_lem false = refl
  passes_by_lem true = refl

  pub marks_by_lem : (mirror : Bool) → final_marks (g.n * g.n) (pair_test g.n (test_by mirror g)) (pair_start g.n (equal_priority g g)) ≡ marks_by mirror g
  unfolding test_by marks_by order_marks marks_between governed_marks
  marks_by_lem false = refl
  marks_by_lem true = refl

  pub relation_by_lem : (mirror : Bool) → relation_by mirror g ≡ rel_of g.n (marked (marks_by mirror g))
  unfolding relation_by marks_by order governed
  relation_by_lem false = refl
  relation_by_lem true = refl

  pub preorder_by : (mirror : Bool) → Preorder g.n (relation_by mirror g)
  unfolding relation_by
  preorder_by false = order_preorder g
  preorder_by true = governed_equivalence.preorder

  pub length_by : (mirror : Bool) → length (marks_by mirror g) ≡ g.n * g.n
  unfolding marks_by
  length_by false = length_order_marks g
  length_by true = length_governed_marks
