-- Merged vertices and governed bisimulation: a game and its quotient by one are such a pair, and every such pair is one. So merged vertices
-- are governed bisimilar, and nothing coarser can be merged; they are below each other, and in one class of the order.
use Rattle.std.specs.Prelude.{◌≡◌, refl, ◌⊎◌, Bool, ℕ, ◌<◌}
use Rattle.std.proofs.Math.Path.{sym}
use Rattle.std.proofs.Common.{◌∙◌}
use Rattle.std.proofs.Math.Logic.{inl, inr}
use Rattle.std.proofs.Math.Bool.{true, false, So}
use Rattle.theory.proofs.Logic.BoolsLaws.{and_in}
use Rattle.theory.specs.Games.Game.{Player, even, odd, same, Game, own, Succ}
use Rattle.theory.specs.Order.Simulation.{Moves, PassesTest}
use Rattle.theory.proofs.Order.SimulationLaws.{moves_mono, simulation_compose}
use Rattle.theory.specs.Order.Order.{order}
use Rattle.theory.specs.Order.Governed.{GovernedBisimulation, governed}
use Rattle.theory.proofs.Order.GovernedLaws.{governed_largest, governed_order}
use Rattle.theory.specs.Classes.Reduction.{same_class, class_of}
use Rattle.theory.proofs.Classes.ClassLaws.{class_number_same}
use Rattle.theory.proofs.Classes.QuotientLaws.{order_preorder}
use Rattle.theory.specs.Merges.Merged.{Single, Merged, Onto, Alike, GovernedQuotient}
use Rattle.theory.proofs.Merges.MergedLaws.{merged_up, merged_down}

-- ---- a game and its quotient

module _ {G K : Game} {class : ℕ → ℕ} (x : GovernedQuotient G K class) where
  pair : (v w : ℕ) → v < G.n → w < G.n → class v ≡ class w → Moves (own G even v) (own G even w) (Succ G v) (Succ G w) (Alike class)
  pair v w hv hw e = (x.bisimulation.simulation v w hv hw e).moves

  -- what a member can do, each can
  answer : (u v w : ℕ) → v < G.n → Succ G u w → (p q : Bool) → Moves p q (Succ G u) (Succ G v) (Alike class)
      → Moves q p (Succ G v) (Succ G u) (Alike class) → (y : ℕ) × Succ G v y × (class y ≡ class w)
  unfolding Moves
  answer u v w h s true true a b = let (y, t, e) = a w s in (y, t, sym e)
  answer u v w h s true false a b = let (y, t) = x.total v h in (y, t, sym (a w y s t))
  answer u v w h s false true a b = let (y, t) = x.total v h in (y, t, b y w t s)
  answer u v w h s false false a b = b w s

  back' : (v d : ℕ) → v < G.n → Succ K (class v) d → (w : ℕ) × Succ G v w × (class w ≡ d)
  back' v d h s =
      let (u, w, hu, t, cu, cw) = x.edge_out (class v) d (x.inside v h) s in
      let (y, a, e) = answer u v w h t (own G even u) (own G even v) (pair u v hu h cu) (pair v u h hu (sym cu)) in
      (y, a, e ∙ cw)

  -- where each move of v and each of u lead to one class
  alone : (u v : ℕ) → u < G.n → v < G.n → ((y z : ℕ) → Succ G v y → Succ G u z → class y ≡ class z) → Single K (class v)
  alone u v hu h f d e s t =
      let (y, a, i) = back' v d h s in
      let (y', b, j) = back' v e h t in
      let (z, c) = x.total u hu in
      sym i ∙ f y z a c ∙ sym (f y' z b c) ∙ j

  -- a member of another owner than v: both have no choice
  mixed : (u v : ℕ) → u < G.n → v < G.n → class u ≡ class v → (a b : Player) → G.owner v ≡ a → G.owner u ≡ b
      → (G.owner v ≡ G.owner u) ⊎ Single K (class v)
  unfolding Moves same
  mixed u v hu h cu even even ea eb = inl (ea ∙ sym eb)
  mixed u v hu h cu odd odd ea eb = inl (ea ∙ sym eb)
  mixed u v hu h cu even odd ea eb = inr (alone u v hu h (λ y z s t. (rw (ea, eb) at (pair v u h hu (sym cu))) y z s t))
  mixed u v hu h cu odd even ea eb = inr (alone u v hu h (λ y z s t. sym ((rw (ea, eb) at (pair u v hu h cu)) z y t s)))

  owner' : (v : ℕ) → v < G.n → (G.owner v ≡ K.owner (class v)) ⊎ Single K (class v)
  owner' v h =
      let (u, hu, cu, o) = x.owner (class v) (x.inside v h) in
      elim o [
        | inl e ↦ elim (mixed u v hu h cu (G.owner v) (G.owner u) refl refl) [ inl i ↦ inl (i ∙ e) | inr s ↦ inr s ]
        | inr s ↦ inr s
      ]

  pub quotient_merged : Merged G K class
  quotient_merged = record { inside = x.inside; priority = x.priority; total = x.total; forth = x.edge_in; back = back'; owner = owner' }

  pub quotient_onto : Onto G K class
  quotient_onto c h = let (v, hv, e, o) = x.owner c h in (v, hv, e)

-- ---- and back

module _ {G K : Game} {class : ℕ → ℕ} (m : Merged G K class) where
  -- the classes are a governed bisimulation: from a vertex to its class, and from there to the other
  pub merged_governed : GovernedBisimulation G (Alike class)
  merged_governed = record { simulation = passes; symmetric = λ v w hv hw e. sym e }
    where
      passes : (v w : ℕ) → v < G.n → w < G.n → class v ≡ class w → PassesTest even G G (Alike class) v w
      passes v w hv hw e =
          let t = simulation_compose even G K G _ _ (merged_up m even) (merged_down m even) v w hv hw (class v, m.inside v hv, refl, sym e) in
          record { equal = t.equal; moves = moves_mono _ _ _ _ _ _ (λ y z s u r. r.2 ∙ sym r.3) t.moves }

  pub merged_quotient : Onto G K class → GovernedQuotient G K class
  merged_quotient onto = record {
    total = m.total;
    bisimulation = merged_governed;
    inside = m.inside;
    priority = m.priority;
    owner = λ c h. let (v, hv, e) = onto c h in (v, hv, e, rw e at (m.owner v hv));
    edge_in = m.forth;
    edge_out = λ c d h s.
        let (v, hv, e) = onto c h in
        let (w, t, i) = m.back v d hv (rw e s) in
        (v, w, hv, t, e, i);
  }

  -- ---- vertices of one class

  pub merged_bisimilar : (v w : ℕ) → v < G.n → w < G.n → class v ≡ class w → So (governed G v w)
  merged_bisimilar v w hv hw e = governed_largest G (Alike class) merged_governed v w hv hw e

  pub merged_order : (v w : ℕ) → v < G.n → w < G.n → class v ≡ class w → So (order G v w)
  merged_order v w hv hw e = governed_order G v w hv hw (merged_bisimilar v w hv hw e)

  pub merged_class : (v w : ℕ) → v < G.n → w < G.n → class v ≡ class w → class_of G v ≡ class_of G w
  unfolding class_of same_class
  merged_class v w hv hw e =
      (class_number_same G.n (order G) (order_preorder G) v w hv hw).1 (and_in (merged_order v w hv hw e) (merged_order w v hw hv (sym e)))
