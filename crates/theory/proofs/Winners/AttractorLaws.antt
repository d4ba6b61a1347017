-- Attractors. A vertex that is attracted is a layer by itself: its links lead into the region, so no closed walk stays at it. Such vertices are
-- added one by one, and the attractor needs no levels. Without it the subgame is one still, and the player who attracts can't leave it.
use Rattle.std.specs.Prelude.{◌≡◌, Bool, true, not, List, [], ◌∷◌, ℕ, zero, suc, ◌≤◌, ◌<◌, eqb}
use Rattle.std.proofs.Math.Path.{refl, subst}
use Rattle.std.proofs.Common.{sym, ◌∙◌, arith}
use Rattle.std.proofs.Math.Logic.{inl, inr}
use Rattle.std.proofs.Math.Bool.{false, So}
use borrow.Author.Tests.{eqb-true, eq-eqb}
use Rattle.theory.specs.Logic.Bools.{◌&◌, imp}
use Rattle.theory.proofs.Logic.BoolsLaws.{decide, clash, So_not, and_in, and_out, imp_out, imp_fails}
use Rattle.theory.specs.Logic.Range.{all_below, any_below, count}
use Rattle.theory.proofs.Logic.RangeLaws.{all_out, all_fails, any_out, any_fails}
use Rattle.theory.proofs.Logic.CountLaws.{count_less}
use Rattle.theory.specs.Order.Passes.{Rel}
use Rattle.theory.specs.Games.Game.{Player, Game, own}
use Rattle.theory.specs.Plans.Plan.{Walk}
use Rattle.theory.specs.Plans.Returns.{In}
use Rattle.theory.specs.Winners.Region.{Set, none, union, minus, Subgame, Region, Layer, attracted, Saturated, Attractor}
use Rattle.theory.proofs.Winners.RegionLaws.{union_left, union_right, minus_in, minus_out, region_layer}

-- ---- the test, in terms of logic

module _ (G : Game) (x : Player) (S B : Set) (v : ℕ) where
  attracted_own : So (own G x v) → So (attracted G x S B v) → (w : ℕ) × So (B w) × So (G.edge v w)
  unfolding attracted
  attracted_own o t =
      let u : So (any_below G.n (λ w. B w & G.edge v w)) = rw o at t in
      let r = any_out u in
      let p = and_out r.2 in
      (r.0, p.0, p.1)

  attracted_opponent : own G x v ≡ false → So (attracted G x S B v) → (w : ℕ) → w < G.n → So (S w) → So (G.edge v w) → So (B w)
  unfolding attracted
  attracted_opponent o t w h s e =
      let u : So (all_below G.n (λ w. imp (S w & G.edge v w) (B w))) = rw o at t in
      imp_out ((all_out u).at w h) (and_in s e)

  -- where it fails: no edge of x's leads into B; some edge of the opponent's leads elsewhere
  repelled_own : So (own G x v) → attracted G x S B v ≡ false → (w : ℕ) → w < G.n → So (G.edge v w) → B w ≡ false
  unfolding attracted
  repelled_own o f w h e =
      let u : any_below G.n (λ w. B w & G.edge v w) ≡ false = rw o at f in
      elim (decide (B w)) [ inl b ↦ clash (and_in b e) (any_fails G.n (λ w. B w & G.edge v w) u w h) | inr g ↦ g ]

  repelled_opponent : own G x v ≡ false → attracted G x S B v ≡ false → (w : ℕ) × So (S w) × So (G.edge v w) × (B w ≡ false)
  unfolding attracted
  repelled_opponent o f =
      let u : all_below G.n (λ w. imp (S w & G.edge v w) (B w)) ≡ false = rw o at f in
      let r = all_fails G.n (λ w. imp (S w & G.edge v w) (B w)) u in
      let p = imp_fails (S r.0 & G.edge v r.0) (B r.0) r.2 in
      let q = and_out p.0 in
      (r.0, q.0, q.1, p.1)

-- ---- a layer of one attracted vertex

module _ (G : Game) (B : Set) (u : ℕ) where
  single : Set
  single v = eqb u v

  single_in : So (single u)
  unfolding single
  single_in = eq-eqb u u refl

  -- its edges into B are its links
  into : Rel
  into v w = single v & B w & G.edge v w

  into_out : (v w : ℕ) → So (into v w) → So (single v) × So (B w) × So (G.edge v w)
  unfolding into
  into_out v w t = let p = and_out t in let q = and_out p.0 in (q.0, q.1, p.1)

  into_leaves : (v : ℕ) (ks : List ℕ) → Walk into v ks v → ((k : ℕ) → In k (v ∷ ks) → B k ≡ false) → ⊥
  into_leaves v [] t f = clash (into_out v v t).1 (f v (inl refl))
  into_leaves v (k ∷ ks) t f = clash (into_out v k t.0).1 (f k (inr (inl refl)))

  layer_single : (x : Player) (S : Set) → Subgame G S → So (S u) → So (attracted G x S B u) → Layer G x S B single
  unfolding into
  layer_single x S sub su att = record {
    link = into;
    inside = λ v t. subst (λ (z : ℕ). So (S z)) (is v t) su;
    source = λ v w t. (into_out v w t).0;
    target = λ v w t. inl (into_out v w t).1;
    follows = λ v w t. (into_out v w t).2;
    moves = λ v t o. let m = attracted_own G x S B v o (att_at v t) in (m.0, and_in (and_in t m.1) m.2);
    answers = λ v t o w s e. and_in (and_in t (attracted_opponent G x S B v o (att_at v t) w (sub.inside w s) s e)) e;
    closed = λ v ks t f. absurd (into_leaves v ks t f);
  }
    where
      is : (v : ℕ) → So (single v) → u ≡ v
      is v t = unfold single in eqb-true u v t

      att_at : (v : ℕ) → So (single v) → So (attracted G x S B v)
      att_at v t = subst (λ (z : ℕ). So (attracted G x S B z)) (is v t) att

-- ---- vertices are added until none is attracted

module _ (G : Game) (x : Player) (S T : Set) (sub : Subgame G S) where
  -- what is left of the subgame
  left : Set → ℕ
  left B = count G.n (minus S B)

  candidate : Set → ℕ → Bool
  candidate B v = minus S B v & attracted G x S B v

  attract_step : (B : Set) → Region G x S T B → ((B' : Set) → Region G x S T B' → left B' < left B → Attractor G x S T B') → Attractor G x S T B
  unfolding left candidate
  attract_step B r more = elim (decide (any_below G.n (candidate B))) [
    | inl t ↦ one (any_out t)
    | inr f ↦ record {
      set = B;
      region = r;
      extends = λ v t. t;
      saturated = λ v s g. elim (decide (attracted G x S B v)) [
        | inl a ↦ clash (and_in (minus_in S B v s g) a) (any_fails G.n (candidate B) f v (sub.inside v s))
        | inr h ↦ h
      ];
    }
  ]
    where
      one : (v : ℕ) × (v < G.n) × So (candidate B v) → Attractor G x S T B
      one (u, h, c) =
          let p = and_out c in
          let q = minus_out S B u p.0 in
          let D : Set = single G B u in
          let B' : Set = union B D in
          let here : So (B' u) = union_right B D u (single_in G B u) in
          let less : left B' < left B =
          count_less G.n (minus S B') (minus S B)
          (λ v l t. let m = minus_out S B' v t in minus_in S B v m.0 (So_not (λ b. clash (union_left B D v b) m.1)))
          u h (So_not (λ t. clash here (minus_out S B' u t).1)) p.0 in
          let a = more B' (region_layer G x S T B D r (layer_single G B u x S sub q.0 p.1)) less in
          record { set = a.set; region = a.region; extends = λ v t. a.extends v (union_left B D v t); saturated = a.saturated }

  attract_within : (k : ℕ) (B : Set) → Region G x S T B → left B ≤ k → Attractor G x S T B
  attract_within zero B r h = attract_step B r (λ B' r' l. absurd (omega arith))
  attract_within (suc k) B r h = attract_step B r (λ B' r' l. attract_within k B' r' (omega arith))

  pub attractor : (B : Set) → Region G x S T B → Attractor G x S T B
  attractor B r = attract_within (left B) B r (omega arith)

-- ---- a subgame without a set that attracts nothing more

module _ (G : Game) (x : Player) (S B : Set) (sub : Subgame G S) (sat : Saturated G x S B) where
  pub subgame_rest : Subgame G (minus S B)
  subgame_rest = record {
    inside = λ v t. sub.inside v (minus_out S B v t).0;
    total = λ v t.
        let p = minus_out S B v t in
        elim (decide (own G x v)) [
          | inl o ↦ (
              let w = sub.total v p.0 in
              (w.0, minus_in S B w.0 w.1 (repelled_own G x S B v o (sat v p.0 p.1) w.0 (sub.inside w.0 w.1) w.2), w.2))
          | inr o ↦ (let w = repelled_opponent G x S B v o (sat v p.0 p.1) in (w.0, minus_in S B w.0 w.1 w.3, w.2))
        ];
  }

  -- x has no edge out of it, so what the opponent y wins there y wins in the subgame
  pub region_trap : (y : Player) → ((v : ℕ) → own G y v ≡ not (own G x v)) → (W : Set) → Region G y (minus S B) none W → Region G y S none W
  region_trap y opposed W r = record {
    link = r.link;
    holds = r.holds;
    inside = λ v t. (minus_out S B v (r.inside v t)).0;
    source = r.source;
    target = r.target;
    leaves = r.leaves;
    follows = r.follows;
    moves = r.moves;
    answers = λ v t f o w s e.
        let p = minus_out S B v (r.inside v t) in
        let mine : So (own G x v) = not_false (sym (opposed v) ∙ o) in
        r.answers v t f o w (minus_in S B w s (repelled_own G x S B v mine (sat v p.0 p.1) w (sub.inside w s) e)) e;
    closed = r.closed;
  }
    where
      not_false : {b : Bool} → not b ≡ false → So b
      not_false {b = true} e = refl
      not_false {b = false} e = sym e
