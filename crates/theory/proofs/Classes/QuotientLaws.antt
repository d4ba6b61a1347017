-- Edges between classes. A class has a quotient edge above each successor of its representative's, and a reduced edge above each
-- quotient edge; all is said for the owner a, with `no_better a` as "no better for a than".
use Rattle.std.specs.Prelude.{◌≡◌, refl, ◌≢◌, Bool, ℕ, ◌<◌}
use Rattle.std.proofs.Math.Bool.{true, false, So}
use Rattle.std.proofs.lemmas.Bool.{false≢true}
use borrow.Author.Tests.{ne_eqb, eqb-false}
use Rattle.theory.specs.Logic.Bools.{◌&◌}
use Rattle.theory.proofs.Logic.BoolsLaws.{So_not, not_in, not_out, and_in, and_out, imp_in, imp_out}
use Rattle.theory.specs.Logic.Range.{any_below}
use Rattle.theory.proofs.Logic.RangeLaws.{all_in, all_out, any_in, any_out}
use Rattle.theory.specs.Order.Passes.{Rel}
use Rattle.theory.specs.Games.Game.{Player, even, odd, other, Game, own, Succ}
use Rattle.theory.proofs.Games.GameLaws.{same_refl}
use Rattle.theory.specs.Order.Simulation.{Moves, Below}
use Rattle.theory.proofs.Order.SimulationLaws.{below_dual, below_refl, below_trans, below_moves}
use Rattle.theory.specs.Order.Order.{order, Preorder}
use Rattle.theory.proofs.Order.OrderLaws.{any_next_in, any_next_out, order_in, order_out, order_refl, order_trans}
use Rattle.theory.specs.Classes.Reduction.{same_class, lowest, is_lowest, class_count, representative, no_better, quotient_edge, dropped, reduced_edge}
use Rattle.theory.specs.Classes.ClassEdges.{QuotientEdge, Better, EdgeAbove}
use Rattle.theory.proofs.Classes.MaximalLaws.{top}
use Rattle.theory.proofs.Classes.ClassLaws.{same_class_sym, same_class_refl, same_class_trans, lowest_lt, lowest_same, is_lowest_lowest, is_lowest_one, representative_lt}

module _ (g : Game) where
  pub order_preorder : Preorder g.n (order g)
  order_preorder = record { reflexive = order_refl g; transitive = order_trans g }

  pub rep_lt : (c : ℕ) → c < class_count g.n (order g) → representative g.n (order g) c < g.n
  rep_lt = representative_lt g.n (order g) order_preorder

  -- ---- the order for either player

  pub no_better_in : (a : Player) {v w : ℕ} → v < g.n → w < g.n → Below a g g v w → So (no_better a (order g) v w)
  unfolding no_better other
  no_better_in even hv hw b = order_in g hv hw b
  no_better_in odd hv hw b = order_in g hw hv (below_dual odd b)

  pub no_better_out : (a : Player) {v w : ℕ} → So (no_better a (order g) v w) → Below a g g v w
  unfolding no_better other
  no_better_out even t = order_out g t
  no_better_out odd t = below_dual even (order_out g t)

  pub no_better_refl : (a : Player) (v : ℕ) → v < g.n → So (no_better a (order g) v v)
  no_better_refl a v h = no_better_in a h h (below_refl a g v)

  pub no_better_trans : (a : Player) (v u w : ℕ) → v < g.n → u < g.n → w < g.n → So (no_better a (order g) v u) → So (no_better a (order g) u w) → So (no_better a (order g) v w)
  no_better_trans a v u w hv hu hw s t = no_better_in a hv hw (below_trans a hu (no_better_out a s) (no_better_out a t))

  pub no_better_preorder : (a : Player) → Preorder g.n (no_better a (order g))
  no_better_preorder a = record { reflexive = no_better_refl a; transitive = no_better_trans a }

  -- the pair test, for either player
  no_better_moves : (a : Player) (v w : ℕ) → v < g.n → w < g.n → So (no_better a (order g) v w)
      → Moves (own g a v) (own g a w) (Succ g v) (Succ g w) (Below a g g)
  no_better_moves a v w hv hw t = below_moves a hv hw (no_better_out a t)

  -- sharing a class is being no better either way
  pub same_class_in : (a : Player) (v w : ℕ) → So (no_better a (order g) v w) → So (no_better a (order g) w v) → So (same_class (order g) v w)
  unfolding no_better same_class
  same_class_in even v w s t = and_in s t
  same_class_in odd v w s t = and_in t s

  pub same_class_up : (a : Player) (v w : ℕ) → So (same_class (order g) v w) → So (no_better a (order g) v w)
  unfolding no_better same_class
  same_class_up even v w t = (and_out t).0
  same_class_up odd v w t = (and_out t).1

  pub same_class_down : (a : Player) (v w : ℕ) → So (same_class (order g) v w) → So (no_better a (order g) w v)
  same_class_down a v w t = same_class_up a w v (same_class_sym (order g) v w t)

  -- between different classes "no better" is "worse": document 004's table 4 asks for the latter, document 01 for the former
  pub no_better_strict : (a : Player) (d e : ℕ) → d < g.n → e < g.n → So (is_lowest g.n (order g) d) → So (is_lowest g.n (order g) e) → d ≢ e
      → So (no_better a (order g) d e) → ¬ So (no_better a (order g) e d)
  no_better_strict a d e hd he ld le f s t = f (is_lowest_one g.n (order g) order_preorder d e hd he ld le (same_class_in a d e s t))

  -- ---- the computed quotient edge

  pub quotient_edge_out : (c d : ℕ) → So (quotient_edge g (order g) c d) → QuotientEdge g c d
  unfolding quotient_edge
  quotient_edge_out c d t v h s = any_next_out g v _ (imp_out ((all_out t).at v h) s)

  pub quotient_edge_in : (c d : ℕ) → QuotientEdge g c d → So (quotient_edge g (order g) c d)
  unfolding quotient_edge
  quotient_edge_in c d f = all_in g.n _ (λ v h. imp_in (λ t. let r = f v h t in any_next_in g v _ r.0 r.1 r.2))

  -- ---- lemma 1: a quotient edge above each successor. c is a's, with successor c'. Among the successors of a's members of c's class
  -- that are no worse than c' take a maximal one, m', of the member m: every member x of the class has a successor in the class of m'.

  module _ (a : Player) (c c' : ℕ) (hc : c < g.n) (oc : So (own g a c)) (move : Succ g c c') where
    le : Rel
    le = no_better a (order g)

    candidate : ℕ → Bool
    candidate y = any_below g.n (λ x. own g a x & same_class (order g) x c & g.edge x y) & le c' y

    candidate_in : (x y : ℕ) → x < g.n → So (own g a x) → So (same_class (order g) x c) → So (g.edge x y) → So (le c' y) → So (candidate y)
    unfolding candidate
    candidate_in x y hx o s e b = and_in (any_in g.n _ x hx (and_in (and_in o s) e)) b

    module _ (m' : ℕ) (hm' : m' < g.n) (up : So (le c' m'))
        (maximal : (y : ℕ) → y < g.n → So (candidate y) → So (le m' y) → So (le y m'))
        (m : ℕ) (hm : m < g.n) (om : So (own g a m)) (mc : So (same_class (order g) m c)) (edge-m : So (g.edge m m')) where
      succ_m : Succ g m m'
      succ_m = record { inside = hm'; along = edge-m }

      -- nothing that a's members reach is better than m'
      cap : (x y : ℕ) → x < g.n → So (own g a x) → So (same_class (order g) x c) → Succ g x y → So (le m' y) → So (le y m')
      unfolding le
      cap x y hx ox xc s b =
          maximal y s.inside
          (candidate_in x y hx ox xc s.along (no_better_trans a c' m' y move.inside hm' s.inside up b)) b

      -- If x is a's, some successor of x is no worse than m', since m is no better than x, and by maximality it is no better either. If x is the
      -- opponent's, m' is no better than any successor of x, and some successor x₁ of x is no better than some successor m₁ of m, since x is no
      -- better than m. So m', x₁, m₁ ascend, and by maximality m₁ is no better than m': all three share a class.
      member : (x : ℕ) → x < g.n → So (same_class (order g) x c) → (p q : Bool) → own g a m ≡ p → So p → own g a x ≡ q
          → Moves p q (Succ g m) (Succ g x) (Below a g g) → Moves q p (Succ g x) (Succ g m) (Below a g g)
          → (y : ℕ) × Succ g x y × So (same_class (order g) y m')
      unfolding Moves le
      member x hx xc true true em t ex mx xm =
          let r = mx m' succ_m in
          let b = no_better_in a hm' r.1.inside r.2 in
          (r.0, r.1, same_class_in a r.0 m' (cap x r.0 hx ex xc r.1 b) b)
      member x hx xc true false em t ex mx xm =
          let x₁ = xm.0 in
          let m₁ = xm.1 in
          let hx₁ = xm.2.inside in
          let hm₁ = xm.3.inside in
          let low : So (no_better a (order g) m' x₁) = no_better_in a hm' hx₁ (mx m' x₁ succ_m xm.2) in
          let high : So (no_better a (order g) x₁ m₁) = no_better_in a hx₁ hm₁ xm.4 in
          let back = cap m m₁ hm em mc xm.3 (no_better_trans a m' x₁ m₁ hm' hx₁ hm₁ low high) in
          (x₁, xm.2, same_class_in a x₁ m' (no_better_trans a x₁ m₁ m' hx₁ hm₁ hm' high back) low)
      member x hx xc false q em t ex mx xm = absurd (false≢true t)

      members : QuotientEdge g c m'
      members x hx xc =
          let xm = same_class_trans g.n (order g) order_preorder x c m hx hc hm xc (same_class_sym (order g) m c mc) in
          member x hx xc (own g a m) (own g a x) refl om refl
          (no_better_moves a m x hm hx (same_class_down a x m xm)) (no_better_moves a x m hx hm (same_class_up a x m xm))

    pub edge_above : (d : ℕ) × (d < g.n) × QuotientEdge g c d × So (no_better a (order g) c' d)
    unfolding candidate le
    edge_above =
        let t =
        top g.n le (no_better_preorder a) candidate c' move.inside
        (candidate_in c c' hc oc (same_class_refl g.n (order g) order_preorder c hc) move.along (no_better_refl a c' move.inside)) in
        let w = any_out (and_out t.is_member).0 in
        let p = and_out w.2 in
        let q = and_out p.0 in
        (t.at, t.inside, members t.at t.inside t.above t.maximal w.0 w.1 q.0 q.1 p.1, t.above)

  -- ---- edges to lowest members

  pub quotient_above : (c x : ℕ) → c < g.n → Succ g c x → EdgeAbove g (quotient_edge g (order g)) (g.owner c) c x
  quotient_above c x hc s =
      let a = g.owner c in
      let (d, hd, q, b) = edge_above a c x hc (same_refl a) s in
      let l = lowest g.n (order g) d in
      let hl = lowest_lt g.n (order g) order_preorder d hd in
      let e = lowest_same g.n (order g) order_preorder d hd in
      let q' : QuotientEdge g c l = λ v hv vc.
      let r = q v hv vc in
      (r.0, r.1, same_class_trans g.n (order g) order_preorder r.0 d l r.1.inside hd hl r.2 (same_class_sym (order g) l d e)) in record {
        to = l;
        inside = hl;
        is_lowest_lem = is_lowest_lowest g.n (order g) order_preorder d hd;
        edge = quotient_edge_in c l q';
        above = no_better_trans a x d l s.inside hd hl b (same_class_down a l d e);
      }

  -- ---- lemma 2: a reduced edge above each quotient edge. Distinct lowest members are never both above each other, so a maximal
  -- quotient edge is kept.

  pub dropped_out : (c d : ℕ) → So (dropped g (order g) c d) → Better g c d
  unfolding dropped
  dropped_out c d t =
      let r = any_out t in
      let p = and_out r.2 in
      let q = and_out p.0 in
      let s = and_out q.0 in
      record { to = r.0; inside = r.1; is_lowest_lem = s.0; apart = eqb-false r.0 d (not_out s.1); edge = q.1; above = p.1 }

  pub dropped_in : (c d : ℕ) → Better g c d → So (dropped g (order g) c d)
  unfolding dropped
  dropped_in c d b =
      any_in g.n _ b.to b.inside
      (and_in (and_in (and_in b.is_lowest_lem (not_in (ne_eqb b.to d b.apart))) b.edge) b.above)

  pub reduced_above : (c d : ℕ) → d < g.n → So (is_lowest g.n (order g) d) → So (quotient_edge g (order g) c d)
      → EdgeAbove g (reduced_edge g (order g)) (g.owner c) c d
  unfolding reduced_edge
  reduced_above c d hd ld q =
      let a = g.owner c in
      let t =
      top g.n (no_better a (order g)) (no_better_preorder a) (λ e. is_lowest g.n (order g) e & quotient_edge g (order g) c e) d hd (and_in ld q) in
      let p = and_out t.is_member in
      let kept : Better g c t.at → ⊥ = λ b.
      let back = t.maximal b.to b.inside (and_in b.is_lowest_lem b.edge) b.above in
      b.apart
      (is_lowest_one g.n (order g) order_preorder b.to t.at b.inside t.inside b.is_lowest_lem p.0
      (same_class_in a b.to t.at back b.above)) in record {
        to = t.at;
        inside = t.inside;
        is_lowest_lem = p.0;
        edge = and_in p.1 (not_in (So_not (λ u. kept (dropped_out c t.at u))));
        above = t.above;
      }

  pub reduced_edge_quotient : (c d : ℕ) → So (reduced_edge g (order g) c d) → So (quotient_edge g (order g) c d)
  unfolding reduced_edge
  reduced_edge_quotient c d t = (and_out t).0
