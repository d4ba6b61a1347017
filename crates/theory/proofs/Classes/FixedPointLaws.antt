-- The reduced game reduced again. In a game of classes the order compares two classes as the order of the game compares their lowest
-- members. So it is antisymmetric, each class is a class by itself, and has as quotient edges its edges. In the reduced game no edge
-- stands beside one that is at least as good for the owner, so nothing is dropped either: reduced again, it is itself.
use Rattle.std.specs.Prelude.{◌≡◌, true, ℕ, ◌<◌}
use Rattle.std.proofs.Math.Path.{sym, ap, ap₂}
use Rattle.std.proofs.Common.{◌∙◌, subst, arith}
use Rattle.std.proofs.Math.Bool.{So}
use borrow.Author.Tests.{eq-eqb}
use Rattle.theory.proofs.Logic.BoolsLaws.{So_ext, So_not, and_in, and_out, not_in}
use Rattle.theory.proofs.Logic.CountLaws.{count_ext, count_all}
use Rattle.theory.specs.Order.Passes.{Rel}
use Rattle.theory.specs.Games.Game.{even, Game}
use Rattle.theory.proofs.Order.SimulationLaws.{below_trans}
use Rattle.theory.specs.Order.Order.{order, Preorder}
use Rattle.theory.proofs.Order.OrderLaws.{order_in, order_out, order_trans}
use Rattle.theory.specs.Classes.Reduction.{same_class, lowest, is_lowest, class_count, class_number, representative, quotient_edge, reduced_edge, class_game, quotient, reduced, class_of}
use Rattle.theory.specs.Classes.ClassEdges.{Better, Enough}
use Rattle.theory.proofs.Classes.ClassLaws.{same_class_le, same_class_ge, same_class_refl, lowest_lt, lowest_same, class_count_le, representative_class, representative_same}
use Rattle.theory.proofs.Classes.QuotientLaws.{order_preorder, rep_lt, no_better_out, quotient_edge_in, quotient_edge_out, dropped_out}
use Rattle.theory.proofs.Classes.ReductionLaws.{quotient_enough, reduced_enough, class_of_reduced}
use Rattle.theory.specs.Games.Agreement.{Agree}
use Rattle.theory.specs.Classes.Minimal.{Equivalent}
use Rattle.theory.proofs.Classes.MinimalLaws.{Lean, class_equivalent, class_apart, reduced_lean}

-- ---- classes of an antisymmetric preorder: each vertex is one

module _ (n : ℕ) (le : Rel) (pre : Preorder n le) (apart : (v w : ℕ) → v < n → w < n → So (same_class le v w) → v ≡ w) where
  single_lowest : (v : ℕ) → v < n → lowest n le v ≡ v
  single_lowest v h = apart (lowest n le v) v (lowest_lt n le pre v h) h (lowest_same n le pre v h)

  single_is : (v : ℕ) → v < n → is_lowest n le v ≡ true
  unfolding is_lowest
  single_is v h = eq-eqb (lowest n le v) v (single_lowest v h)

  single_count : class_count n le ≡ n
  unfolding class_count
  single_count = count_ext n (is_lowest n le) (λ i. true) single_is ∙ count_all n

  single_number : (v : ℕ) → v < n → class_number n le v ≡ v
  unfolding class_number
  single_number v h =
      rw (single_lowest v h) (count_ext v (is_lowest n le) (λ i. true) (λ i l. single_is i (omega arith)) ∙ count_all v)

  single_representative : (v : ℕ) → v < n → representative n le v ≡ v
  single_representative v h =
      ap (representative n le) (sym (single_number v h)) ∙ representative_class n le pre v h ∙ single_lowest v h

-- ---- a game without two equivalent vertices

module _ (K : Game) (one : (c d : ℕ) → c < K.n → d < K.n → Equivalent K K c d → c ≡ d) where
  abbrev le : Rel
  le = order K

  abbrev pre : Preorder K.n (order K)
  pre = order_preorder K

  apart : (v w : ℕ) → v < K.n → w < K.n → So (same_class (order K) v w) → v ≡ w
  unfolding same_class
  apart v w hv hw t = let p = and_out t in one v w hv hw (record { up = order_out K p.0; down = order_out K p.1 })

  rep_is : (c : ℕ) → c < class_count K.n le → representative K.n le c ≡ c
  rep_is c h = single_representative K.n le pre apart c (omega (arith, class_count_le K.n le pre))

  -- a class has as quotient edges its edges
  quotient_edge_lem : (c d : ℕ) → c < K.n → d < K.n → quotient_edge K le c d ≡ K.edge c d
  quotient_edge_lem c d hc hd = So_ext
      (λ t.
      let (y, s, q) = quotient_edge_out K c d t c hc (same_class_refl K.n le pre c hc) in
      subst (λ (z : ℕ). So (K.edge c z)) (apart y d s.inside hd q) s.along)
      (λ t. quotient_edge_in K c d (λ v hv q. (
        d,
        record { inside = hd; along = subst (λ (z : ℕ). So (K.edge z d)) (sym (apart v c hv hc q)) t },
        same_class_refl K.n le pre d hd,
      )))

  -- with the edges E between single vertices it is the game itself
  itself : (E : Rel) → ((c d : ℕ) → c < K.n → d < K.n → E c d ≡ K.edge c d) → Agree (class_game K le E) K
  unfolding class_game
  itself E same = record {
    size = single_count K.n le pre apart;
    priority = λ c h. ap K.priority (rep_is c h);
    apart = λ c d h k e. e;
    owner = λ c h. ap K.owner (rep_is c h);
    edge = λ c d h k.
        ap₂ E (rep_is c h) (rep_is d k)
        ∙ same c d (omega (arith, class_count_le K.n le pre)) (omega (arith, class_count_le K.n le pre));
  }

  quotient_itself : Agree (quotient K) K
  unfolding quotient
  quotient_itself = itself (quotient_edge K le) quotient_edge_lem

  class_itself : (v : ℕ) → v < K.n → class_of K v ≡ v
  unfolding class_of
  class_itself = single_number K.n le pre apart

-- ---- a lean game: nothing is dropped

module _ (K : Game) (lean : Lean K) where
  none_dropped : (c d : ℕ) → c < K.n → d < K.n → So (K.edge c d) → Better K c d → ⊥
  none_dropped c d hc hd t b =
      b.apart
      (sym (lean.kept c d b.to hc (record { inside = hd; along = t })
      (record { inside = b.inside; along = sym (quotient_edge_lem K lean.apart c b.to hc b.inside) ∙ b.edge })
      (no_better_out K (K.owner c) b.above)))

  reduced_edge_lem : (c d : ℕ) → c < K.n → d < K.n → reduced_edge K (order K) c d ≡ K.edge c d
  unfolding reduced_edge
  reduced_edge_lem c d hc hd = So_ext
      (λ t. sym (quotient_edge_lem K lean.apart c d hc hd) ∙ (and_out t).0)
      (λ t. and_in (quotient_edge_lem K lean.apart c d hc hd ∙ t) (not_in (So_not (λ u. none_dropped c d hc hd t (dropped_out K c d u)))))

  reduced_itself : Agree (reduced K) K
  unfolding reduced
  reduced_itself = itself K lean.apart (reduced_edge K (order K)) reduced_edge_lem

-- ---- the order of a game of classes

module _ (g : Game) where
  abbrev rep : ℕ → ℕ
  rep = representative g.n (order g)

  class_order : (E : Rel) → Enough g E → (c d : ℕ) → c < class_count g.n (order g) → d < class_count g.n (order g)
      → order (class_game g (order g) E) c d ≡ order g (rep c) (rep d)
  class_order E enough c d hc hd =
      let K = class_game g (order g) E in
      let kc : c < K.n = unfold class_game in hc in
      let kd : d < K.n = unfold class_game in hd in
      let ec = class_equivalent g E enough c kc in
      let ed = class_equivalent g E enough d kd in
      So_ext
      (λ t. order_in g (rep_lt g c hc) (rep_lt g d hd) (below_trans even kc ec.down (below_trans even kd (order_out K t) ed.up)))
      (λ t. order_in K kc kd (below_trans even (rep_lt g c hc) ec.up (below_trans even (rep_lt g d hd) (order_out g t) ed.down)))

  -- ---- the reduced game

  -- it compares classes as the order of the game compares their lowest members
  pub reduced_order : (c d : ℕ) → c < (reduced g).n → d < (reduced g).n → order (reduced g) c d ≡ order g (rep c) (rep d)
  unfolding reduced class_game
  reduced_order = class_order (reduced_edge g (order g)) (reduced_enough g)

  -- so it compares the classes of two vertices as the order of the game compares these
  pub reduced_compares : (v w : ℕ) → v < g.n → w < g.n → order (reduced g) (class_of g v) (class_of g w) ≡ order g v w
  unfolding reduced class_game
  reduced_compares v w hv hw =
      class_order (reduced_edge g (order g)) (reduced_enough g) (class_of g v) (class_of g w) (class_of_reduced g v hv) (class_of_reduced g w hw) ∙ So_ext
      (λ t. order_trans g v (low v) w hv (low_lt v hv) hw (up v hv) (order_trans g (low v) (low w) w (low_lt v hv) (low_lt w hw) hw t (down w hw)))
      (λ t. order_trans g (low v) v (low w) (low_lt v hv) hv (low_lt w hw) (down v hv) (order_trans g v w (low w) hv hw (low_lt w hw) t (up w hw)))
    where
      low : ℕ → ℕ
      low v = rep (class_of g v)

      low_same : (v : ℕ) → v < g.n → So (same_class (order g) (low v) v)
      low_same v h = unfold class_of in representative_same g.n (order g) (order_preorder g) v h

      low_lt : (v : ℕ) → v < g.n → low v < g.n
      low_lt v h = rep_lt g (class_of g v) (unfold reduced class_game in class_of_reduced g v h)

      up : (v : ℕ) → v < g.n → So (order g v (low v))
      up v h = same_class_ge (order g) (low v) v (low_same v h)

      down : (v : ℕ) → v < g.n → So (order g (low v) v)
      down v h = same_class_le (order g) (low v) v (low_same v h)

  -- no two classes are below each other
  pub reduced_antisymmetric : (c d : ℕ) → c < (reduced g).n → d < (reduced g).n → So (order (reduced g) c d) → So (order (reduced g) d c) → c ≡ d
  reduced_antisymmetric c d hc hd s t =
      (reduced_lean g).apart c d hc hd (record { up = order_out (reduced g) s; down = order_out (reduced g) t })

  -- each vertex is its own class
  pub reduced_class : (c : ℕ) → c < (reduced g).n → class_of (reduced g) c ≡ c
  reduced_class = class_itself (reduced g) (reduced_lean g).apart

  -- reduced again, it is itself
  pub reduced_twice : Agree (reduced (reduced g)) (reduced g)
  reduced_twice = reduced_itself (reduced g) (reduced_lean g)

  -- ---- the quotient

  quotient_apart : (c d : ℕ) → c < (quotient g).n → d < (quotient g).n → Equivalent (quotient g) (quotient g) c d → c ≡ d
  unfolding quotient
  quotient_apart = class_apart g (quotient_edge g (order g)) (quotient_enough g)

  pub quotient_class : (c : ℕ) → c < (quotient g).n → class_of (quotient g) c ≡ c
  quotient_class = class_itself (quotient g) quotient_apart

  pub quotient_twice : Agree (quotient (quotient g)) (quotient g)
  quotient_twice = quotient_itself (quotient g) quotient_apart
