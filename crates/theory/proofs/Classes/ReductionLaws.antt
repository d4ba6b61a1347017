-- The quotient and the reduced game, once for both: a game of classes whose edges are quotient edges, with one above each successor of
-- a representative's. The game and it simulate each other by "v is below the representative of c" and its converse. (Document 004's
-- lemma 4.6 takes membership of v in c, which is no simulation where Odd owns c.)
use Rattle.std.specs.Prelude.{◌≡◌, Bool, true, false, ℕ, ◌<◌}
use Rattle.std.proofs.Math.Path.{refl}
use Rattle.std.proofs.Math.Bool.{So}
use Rattle.theory.specs.Order.Passes.{Rel}
use Rattle.theory.specs.Games.Game.{even, Game, own, Succ, Total}
use Rattle.theory.proofs.Games.GameLaws.{same_out, same_fails}
use Rattle.theory.specs.Order.Simulation.{Moves, PassesTest, DirectSimulation, Below}
use Rattle.theory.proofs.Order.SimulationLaws.{below_turn}
use Rattle.theory.specs.Order.Order.{order, Holds}
use Rattle.theory.proofs.Order.OrderLaws.{order_in, order_trans, order_simulation}
use Rattle.theory.specs.Classes.Reduction.{same_class, class_count, class_number, representative, quotient_edge, reduced_edge, no_better, class_game, quotient, reduced, class_of}
use Rattle.theory.specs.Classes.ClassEdges.{Enough}
use Rattle.theory.proofs.Classes.ClassLaws.{same_class_le, same_class_ge, same_class_refl, class_number_lt, representative_of, representative_same}
use Rattle.theory.proofs.Classes.QuotientLaws.{order_preorder, rep_lt, no_better_out, no_better_trans, quotient_edge_out, quotient_above, reduced_above, reduced_edge_quotient}

-- ---- any game of classes with enough quotient edges

module _ (g : Game) (E : Rel) (enough : Enough g E) where
  abbrev K : Game
  K = class_game g (order g) E

  abbrev k : ℕ
  k = class_count g.n (order g)

  abbrev rep : ℕ → ℕ
  rep = representative g.n (order g)

  -- an edge of classes, seen from the representative: a successor in the class
  down : (c d : ℕ) → c < k → Succ K c d → (y : ℕ) × Succ g (rep c) y × So (same_class (order g) y (rep d))
  unfolding class_game
  down c d hc s =
      quotient_edge_out g (rep c) (rep d) (enough.is_quotient (rep c) (rep d) s.along) (rep c) (rep_lt g c hc)
      (same_class_refl g.n (order g) (order_preorder g) (rep c) (rep_lt g c hc))

  -- a successor of the representative's, seen from the class: an edge above it, for the owner
  record Up (c x : ℕ) : Type 0 where
    to : ℕ
    edge : Succ K c to
    above : So (no_better (g.owner (rep c)) (order g) x (rep to))

  up : (c x : ℕ) → c < k → Succ g (rep c) x → Up c x
  unfolding class_game
  up c x hc s =
      let e = enough.above (rep c) x (rep_lt g c hc) s in
      let d = class_number g.n (order g) e.to in
      let back = representative_of g.n (order g) (order_preorder g) e.to e.inside e.is_lowest_lem in record {
        to = d;
        edge = record { inside = class_number_lt g.n (order g) (order_preorder g) e.to e.inside; along = rw back e.edge };
        above = rw back e.above;
      }

  pub class_total_lem : Total g → Total K
  unfolding class_game
  class_total_lem total c h = let t = total (rep c) (rep_lt g c h) in let u = up c t.0 h t.1 in (u.to, u.edge)

  -- Even's edge above x is above it; Odd's is below
  above_even : (c x : ℕ) → c < k → x < g.n → own g even (rep c) ≡ true → (u : Up c x) → So (order g x (rep u.to))
  unfolding class_game
  above_even c x hc hx o u =
      order_in g hx (rep_lt g u.to u.edge.inside) (rw (same_out even (g.owner (rep c)) o) (no_better_out g (g.owner (rep c)) u.above))

  below_odd : (c x : ℕ) → c < k → x < g.n → own g even (rep c) ≡ false → (u : Up c x) → So (order g (rep u.to) x)
  unfolding class_game
  below_odd c x hc hx o u =
      order_in g (rep_lt g u.to u.edge.inside) hx
      (below_turn even (g.owner (rep c)) (same_fails even (g.owner (rep c)) o) (no_better_out g (g.owner (rep c)) u.above))

  -- v is below the representative of c
  pub class_into : DirectSimulation g K (λ v c. So (order g v (rep c)))
  unfolding class_game Moves
  class_into v c hv hc t = record { equal = p.equal; moves = go (own g even v) (own g even (rep c)) refl p.moves }
    where
      p : PassesTest even g g (Holds (order g)) v (rep c)
      p = order_simulation g v (rep c) hv (rep_lt g c hc) t

      more : (x y d : ℕ) → x < g.n → y < g.n → d < k → So (order g x y) → So (order g y (rep d)) → So (order g x (rep d))
      more x y d hx hy hd = order_trans g x y (rep d) hx hy (rep_lt g d hd)

      go : (ov oc : Bool) → own g even (rep c) ≡ oc → Moves ov oc (Succ g v) (Succ g (rep c)) (Holds (order g))
          → Moves ov oc (Succ g v) (Succ K c) (λ v c. So (order g v (rep c)))
      go true true e m = λ v' s.
          let r = m v' s in
          let u = up c r.0 hc r.1 in
          (u.to, u.edge, more v' r.0 u.to s.inside r.1.inside u.edge.inside r.2 (above_even c r.0 hc r.1.inside e u))
      go true false e m = λ v' d s f.
          let r = down c d hc f in
          more v' r.0 d s.inside r.1.inside f.inside (m v' r.0 s r.1) (same_class_le (order g) r.0 (rep d) r.2)
      go false true e m =
          let u = up c m.1 hc m.3 in
          (m.0, u.to, m.2, u.edge, more m.0 m.1 u.to m.2.inside m.3.inside u.edge.inside m.4 (above_even c m.1 hc m.3.inside e u))
      go false false e m = λ d f.
          let r = down c d hc f in
          let q = m r.0 r.1 in
          (q.0, q.1, more q.0 r.0 d q.1.inside r.1.inside f.inside q.2 (same_class_le (order g) r.0 (rep d) r.2))

  -- the representative of c is below w
  pub class_from : DirectSimulation K g (λ c w. So (order g (rep c) w))
  unfolding class_game Moves
  class_from c w hc hw t = record { equal = p.equal; moves = go (own g even (rep c)) (own g even w) refl p.moves }
    where
      p : PassesTest even g g (Holds (order g)) (rep c) w
      p = order_simulation g (rep c) w (rep_lt g c hc) hw t

      more : (d x y : ℕ) → d < k → x < g.n → y < g.n → So (order g (rep d) x) → So (order g x y) → So (order g (rep d) y)
      more d x y hd hx hy = order_trans g (rep d) x y (rep_lt g d hd) hx hy

      go : (oc ow : Bool) → own g even (rep c) ≡ oc → Moves oc ow (Succ g (rep c)) (Succ g w) (Holds (order g))
          → Moves oc ow (Succ K c) (Succ g w) (λ c w. So (order g (rep c) w))
      go true true e m = λ d f.
          let r = down c d hc f in
          let q = m r.0 r.1 in
          (q.0, q.1, more d r.0 q.0 f.inside r.1.inside q.1.inside (same_class_ge (order g) r.0 (rep d) r.2) q.2)
      go true false e m = λ d w' f s.
          let r = down c d hc f in
          more d r.0 w' f.inside r.1.inside s.inside (same_class_ge (order g) r.0 (rep d) r.2) (m r.0 w' r.1 s)
      go false true e m =
          let u = up c m.0 hc m.2 in
          (u.to, m.1, u.edge, m.3, more u.to m.0 m.1 u.edge.inside m.2.inside m.3.inside (below_odd c m.0 hc m.2.inside e u) m.4)
      go false false e m = λ w' s.
          let r = m w' s in
          let u = up c r.0 hc r.1 in
          (u.to, u.edge, more u.to r.0 w' u.edge.inside r.1.inside s.inside (below_odd c r.0 hc r.1.inside e u) r.2)

  -- a vertex and its class are below each other
  pub class_above : (v : ℕ) → v < g.n → Below even g K v (class_of g v)
  unfolding class_of
  class_above v h = record {
    relation = λ v c. So (order g v (rep c));
    simulation = class_into;
    holds = same_class_ge (order g) (rep (class_number g.n (order g) v)) v (representative_same g.n (order g) (order_preorder g) v h);
  }

  pub class_below : (v : ℕ) → v < g.n → Below even K g (class_of g v) v
  unfolding class_of
  class_below v h = record {
    relation = λ c w. So (order g (rep c) w);
    simulation = class_from;
    holds = same_class_le (order g) (rep (class_number g.n (order g) v)) v (representative_same g.n (order g) (order_preorder g) v h);
  }

  -- every member has the priority of its class
  pub class_priority : (v : ℕ) → v < g.n → g.priority v ≡ K.priority (class_of g v)
  unfolding class_of class_game
  class_priority v h =
      let b = class_above v h in
      (b.simulation v (class_of g v) h (class_number_lt g.n (order g) (order_preorder g) v h) b.holds).equal

-- ---- the two games

module _ (g : Game) where
  pub quotient_enough : Enough g (quotient_edge g (order g))
  quotient_enough = record { is_quotient = λ c d t. t; above = quotient_above g }

  pub reduced_enough : Enough g (reduced_edge g (order g))
  reduced_enough = record {
    is_quotient = reduced_edge_quotient g;
    above = λ c x hc s.
        let q = quotient_above g c x hc s in
        let r = reduced_above g c q.to q.inside q.is_lowest_lem q.edge in record {
          to = r.to;
          inside = r.inside;
          is_lowest_lem = r.is_lowest_lem;
          edge = r.edge;
          above = no_better_trans g (g.owner c) x q.to r.to s.inside q.inside r.inside q.above r.above;
        };
  }

  -- every vertex of each has a successor
  pub quotient_total : Total g → Total (quotient g)
  unfolding quotient
  quotient_total = class_total_lem g (quotient_edge g (order g)) quotient_enough

  pub reduced_total : Total g → Total (reduced g)
  unfolding reduced
  reduced_total = class_total_lem g (reduced_edge g (order g)) reduced_enough

  -- the class of a vertex is a vertex of each
  pub class_of_quotient : (v : ℕ) → v < g.n → class_of g v < (quotient g).n
  unfolding class_of quotient class_game
  class_of_quotient v h = class_number_lt g.n (order g) (order_preorder g) v h

  pub class_of_reduced : (v : ℕ) → v < g.n → class_of g v < (reduced g).n
  unfolding class_of reduced class_game
  class_of_reduced v h = class_number_lt g.n (order g) (order_preorder g) v h

  -- a class has its members' priority
  pub quotient_priority : (v : ℕ) → v < g.n → g.priority v ≡ (quotient g).priority (class_of g v)
  unfolding quotient
  quotient_priority = class_priority g (quotient_edge g (order g)) quotient_enough

  pub reduced_priority : (v : ℕ) → v < g.n → g.priority v ≡ (reduced g).priority (class_of g v)
  unfolding reduced
  reduced_priority = class_priority g (reduced_edge g (order g)) reduced_enough
