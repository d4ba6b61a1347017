-- Every right solution has an order that certifies it. A set of vertices is ordered by recursion: where some vertex of it doesn't reach all
-- of it, what it reaches comes first, and the rest above; where each reaches all, the vertex of the lowest priority comes first. It lies on
-- a closed walk if an edge leaves it, so its priority is then the winner's.
use Rattle.std.specs.Prelude.{◌≡◌, ◌⊎◌, Bool, cond, [], ◌∷◌, ℕ, zero, suc, ◌+◌, ◌≤◌, ◌<◌, eqb}
use Rattle.std.proofs.Math.Path.{refl, sym, ap}
use Rattle.std.proofs.Common.{◌∙◌, le_refl, eqb-true, eq-eqb, ne_eqb}
use Rattle.std.proofs.Math.Logic.{inl, inr}
use Rattle.std.proofs.Math.Bool.{true, false, not, So}
use Rattle.std.proofs.Math.Decide.{dec_lt, ℕ_discrete}
use native.Mathlib.Omega.{arith}
use Rattle.theory.specs.Logic.Bools.{◌&◌, ◌or◌, bit}
use Rattle.theory.proofs.Logic.BoolsLaws.{decide, clash, not_in, not_out, and_in, and_out, or_left, or_right, or_out}
use Rattle.theory.specs.Logic.Range.{any_below, count}
use Rattle.theory.proofs.Logic.RangeLaws.{any_in, any_out, any_fails}
use Rattle.theory.proofs.Logic.CountLaws.{count_both, count_less}
use Rattle.theory.specs.Order.Passes.{Rel}
use Rattle.theory.specs.Games.Game.{Player, parity, Game}
use Rattle.theory.specs.Plans.Returns.{In}
use Rattle.theory.specs.Winners.Region.{Set, minus, whole, Lowest}
use Rattle.theory.proofs.Winners.RegionLaws.{minus_in, minus_less, lowest}
use Rattle.theory.proofs.Winners.RegionPlanLaws.{whole_in}
use Rattle.theory.specs.Solutions.Solution.{Kept, Good}
use Rattle.theory.specs.Plans.Reach.{Reach, reaches}
use Rattle.theory.proofs.Plans.ReachLaws.{each_out, reaches_in, reaches_out, reach_more}
use Rattle.theory.specs.Solutions.Places.{Over, Ordered}

module _ (G : Game) (win : ℕ → Player) (kept : Rel) (k : Kept G win kept) (good : Good G win kept) where
  abbrev n : ℕ
  n = G.n

  -- an order of the vertices of S, for the kept edges within S
  pub record OrderOn (S : Set) : Type 0 where
    pub place : ℕ → ℕ
    pub below : (v : ℕ) → v < n → So (S v) → place v < count n S
    pub one : (u v : ℕ) → u < n → v < n → So (S u) → So (S v) → place u ≡ place v → u ≡ v
    pub falls : (v w : ℕ) → So (kept v w) → So (S v) → So (S w) → parity (win v) (G.priority v) ≡ false → G.priority v ≤ G.priority w → place w < place v
    pub rises : (v w : ℕ) → So (kept v w) → So (S v) → So (S w) → (u : ℕ) → u < n → So (S u) → place v < place u → place u ≤ place w → Over G win v u

  empty : (S : Set) → ((v : ℕ) → v < n → S v ≡ false) → OrderOn S
  empty S f = record {
    place = λ v. 0;
    below = λ v h t. clash t (f v h);
    one = λ u v h l s t e. clash s (f u h);
    falls = λ v w t s r e l. clash s (f v (k.source v w t));
    rises = λ v w t s r u h x a b. clash x (f u h);
  }

  -- what v reaches within S
  reached : Set → ℕ → Set
  reached S v x = S x & (eqb v x or reaches n kept S n v x)

  reached_in : (S : Set) (v x : ℕ) → So (reached S v x) → So (S x)
  unfolding reached
  reached_in S v x t = (and_out t).0

  reached_self : (S : Set) (v : ℕ) → So (S v) → So (reached S v v)
  unfolding reached
  reached_self S v t = and_in t (or_left _ (eq-eqb v v refl))

  reached_on : (S : Set) (v x y : ℕ) → So (reached S v x) → So (kept x y) → So (S y) → So (reached S v y)
  unfolding reached
  reached_on S v x y t e s = let b = and_out t in and_in s (or_right _ (reaches_in n kept S v y (go b.0 (or_out b.1))))
    where
      go : So (S x) → So (eqb v x) ⊎ So (reaches n kept S n v x) → Reach n kept S v y
      go q (inl z) = record { between = []; walk = rw (eqb-true v x z) e; each = tt }
      go q (inr r) = reach_more n kept S v x y (reaches_out n kept S n v x r) (k.source x y e) q e

  -- ---- two parts, nothing kept from the lower one to the upper one

  module _ (S R : Set) (part : (v : ℕ) → So (R v) → So (S v)) (shut : (v w : ℕ) → So (R v) → So (kept v w) → So (S w) → So (R w))
      (low : OrderOn R) (high : OrderOn (minus S R)) where
    joined : ℕ → ℕ
    joined v = cond (R v) (low.place v) (count n R + high.place v)

    joined_low : (v : ℕ) → So (R v) → joined v ≡ low.place v
    unfolding joined
    joined_low v t = rw t

    joined_high : (v : ℕ) → R v ≡ false → joined v ≡ count n R + high.place v
    unfolding joined
    joined_high v f = rw f

    counts : count n R + count n (minus S R) ≡ count n S
    unfolding minus
    counts = count_both n R (λ i. S i & not (R i)) S (λ i h. go i (R i) refl)
      where
        go : (i : ℕ) (b : Bool) → R i ≡ b → bit b + bit (S i & not b) ≡ bit (S i)
        go i true e = unfold bit ◌&◌ in rw (part i e) refl
        go i false e = unfold bit in go' (S i)
          where
            go' : (c : Bool) → 0 + bit (c & true) ≡ bit c
            go' true = unfold bit ◌&◌ in refl
            go' false = unfold bit ◌&◌ in refl

    joined_order : OrderOn S
    joined_order = record {
      place = joined;
      below = λ v h s. below' v h s (decide (R v));
      one = λ u v h l s t e. one' u v h l s t e (decide (R u)) (decide (R v));
      falls = λ v w t s r e l. falls' v w t s r e l (decide (R v)) (decide (R w));
      rises = λ v w t s r u h x a b. rises' v w t s r u h x a b (decide (R v)) (decide (R w)) (decide (R u));
    }
      where
        below' : (v : ℕ) → v < n → So (S v) → So (R v) ⊎ (R v ≡ false) → joined v < count n S
        below' v h s (inl t) = rw (joined_low v t) (omega (arith, low.below v h t, counts))
        below' v h s (inr f) = rw (joined_high v f) (omega (arith, high.below v h (minus_in S R v s f), counts))

        one' : (u v : ℕ) → u < n → v < n → So (S u) → So (S v) → joined u ≡ joined v → So (R u) ⊎ (R u ≡ false) → So (R v) ⊎ (R v ≡ false) → u ≡ v
        one' u v h l s t e (inl a) (inl b) = low.one u v h l a b (sym (joined_low u a) ∙ e ∙ joined_low v b)
        one' u v h l s t e (inl a) (inr b) = absurd (omega (arith, joined_low u a, joined_high v b, low.below u h a, e))
        one' u v h l s t e (inr a) (inl b) = absurd (omega (arith, joined_high u a, joined_low v b, low.below v l b, e))
        one' u v h l s t e (inr a) (inr b) = high.one u v h l (minus_in S R u s a) (minus_in S R v t b) (omega (arith, joined_high u a, joined_high v b, e))

        falls' : (v w : ℕ) → So (kept v w) → So (S v) → So (S w) → parity (win v) (G.priority v) ≡ false → G.priority v ≤ G.priority w
            → So (R v) ⊎ (R v ≡ false) → So (R w) ⊎ (R w ≡ false) → joined w < joined v
        falls' v w t s r e l (inl a) (inl b) = rw (joined_low v a, joined_low w b) (low.falls v w t a b e l)
        falls' v w t s r e l (inl a) (inr b) = clash (shut v w a t r) b
        falls' v w t s r e l (inr a) (inl b) = rw (joined_high v a, joined_low w b) (omega (arith, low.below w (k.target v w t) b))
        falls' v w t s r e l (inr a) (inr b) = rw (joined_high v a, joined_high w b) (omega (arith, high.falls v w t (minus_in S R v s a) (minus_in S R w r b) e l))

        rises' : (v w : ℕ) → So (kept v w) → So (S v) → So (S w) → (u : ℕ) → u < n → So (S u) → joined v < joined u → joined u ≤ joined w
            → So (R v) ⊎ (R v ≡ false) → So (R w) ⊎ (R w ≡ false) → So (R u) ⊎ (R u ≡ false) → Over G win v u
        rises' v w t s r u h x a b (inl p) (inl q) (inl z) =
            low.rises v w t p q u h z (omega (arith, joined_low v p, joined_low u z)) (omega (arith, joined_low u z, joined_low w q))
        rises' v w t s r u h x a b (inl p) (inl q) (inr z) = absurd (omega (arith, joined_high u z, joined_low w q, low.below w (k.target v w t) q))
        rises' v w t s r u h x a b (inl p) (inr q) z = clash (shut v w p t r) q
        rises' v w t s r u h x a b (inr p) q (inl z) = absurd (omega (arith, joined_high v p, joined_low u z, low.below u h z))
        rises' v w t s r u h x a b (inr p) (inl q) (inr z) = absurd (omega (arith, joined_high u z, joined_low w q, low.below w (k.target v w t) q))
        rises' v w t s r u h x a b (inr p) (inr q) (inr z) =
            high.rises v w t (minus_in S R v s p) (minus_in S R w r q) u h (minus_in S R u x z)
            (omega (arith, joined_high v p, joined_high u z)) (omega (arith, joined_high u z, joined_high w q))

  -- ---- all reach all: the lowest vertex first

  without : (S : Set) (l : Lowest G S n) → count n (minus S (eqb l.at)) < count n S
  without S l = minus_less G S (eqb l.at) l.at l.inside l.member (eq-eqb l.at l.at refl)

  module _ (S : Set) (l : Lowest G S n) (all : (w : ℕ) → w < n → So (S w) → So (reached S w l.at))
      (rest : OrderOn (minus S (eqb l.at))) where
    x : ℕ
    x = l.at

    -- an edge from x leads back to it
    winners : (w : ℕ) → So (kept x w) → So (S w) → So (parity (win x) (G.priority x))
    unfolding x reached
    winners w t s = elim (decide (parity (win x) (G.priority x))) [
      | inl y ↦ y
      | inr f ↦ absurd (go f (or_out (and_out (all w (k.target x w t) s)).1))
    ]
      where
        go : parity (win x) (G.priority x) ≡ false → So (eqb w x) ⊎ So (reaches n kept S n w x) → ⊥
        go f (inl z) = good x l.inside (record { between = []; walk = rw (eqb-true w x z) at t; above = λ u m. absurd m; wrong = f })
        go f (inr r) = back f (reaches_out n kept S n w x r)
          where
            back : parity (win x) (G.priority x) ≡ false → Reach n kept S w x → ⊥
            back f r = good x l.inside (record { between = w ∷ r.between; walk = (t, r.walk); above = above; wrong = f })
              where
                above : (u : ℕ) → In u (w ∷ r.between) → G.priority x ≤ G.priority u
                above u (inl e) = rw e (l.least w (k.target x w t) s)
                above u (inr m) = let q = each_out _ r.between r.each u m in l.least u q.0 q.1

    first_place : ℕ → ℕ
    first_place v = cond (eqb x v) 0 (suc (rest.place v))

    at_first : (v : ℕ) → x ≡ v → first_place v ≡ 0
    unfolding first_place
    at_first v e = rw (eq-eqb x v e)

    at_later : (v : ℕ) → (x ≡ v → ⊥) → first_place v ≡ suc (rest.place v)
    unfolding first_place
    at_later v d = rw (ne_eqb x v d)

    later : (v : ℕ) → So (S v) → (x ≡ v → ⊥) → So (minus S (eqb x) v)
    later v s d = minus_in S (eqb x) v s (ne_eqb x v d)

    first_order : OrderOn S
    unfolding x
    first_order = record {
      place = first_place;
      below = λ v h s. elim (ℕ_discrete x v) [
        | yes e ↦ rw (at_first v e) (omega (arith, without S l))
        | no d ↦ rw (at_later v d) (omega (arith, without S l, rest.below v h (later v s d)))
      ];
      one = λ u v h i s t e. elim (ℕ_discrete x u) [
        | yes a ↦ elim (ℕ_discrete x v) [ yes b ↦ sym a ∙ b | no b ↦ absurd (omega (arith, at_first u a, at_later v b, e)) ]
        | no a ↦ elim (ℕ_discrete x v) [
          | yes b ↦ absurd (omega (arith, at_later u a, at_first v b, e))
          | no b ↦ rest.one u v h i (later u s a) (later v t b) (omega (arith, at_later u a, at_later v b, e))
        ]
      ];
      falls = λ v w t s r e q. elim (ℕ_discrete x v) [
        | yes a ↦ clash (rw (← a) (winners w (rw a t) r)) e
        | no a ↦ elim (ℕ_discrete x w) [
          | yes b ↦ rw (at_later v a, at_first w b) (omega arith)
          | no b ↦ rw (at_later v a, at_later w b) (omega (arith, rest.falls v w t (later v s a) (later w r b) e q))
        ]
      ];
      rises = λ v w t s r u h z a b. elim (ℕ_discrete x u) [
        | yes e ↦ absurd (omega (arith, at_first u e, a))
        | no d ↦ elim (ℕ_discrete x v) [
          | yes e ↦ over v w e t r (l.least u h z)
          | no e ↦ elim (ℕ_discrete x w) [
            | yes q ↦ absurd (omega (arith, at_first w q, at_later u d, b))
            | no q ↦ rest.rises v w t (later v s e) (later w r q) u h (later u z d) (omega (arith, at_later v e, at_later u d, a)) (omega (arith, at_later u d, at_later w q, b))
          ]
        ]
      ];
    }
      where
        over : (v w : ℕ) {u : ℕ} → x ≡ v → So (kept v w) → So (S w) → G.priority x ≤ G.priority u → Over G win v u
        over v w {u} e t r q = elim (dec_lt (G.priority v) (G.priority u)) [
          | yes y ↦ inl y
          | no y ↦ (let f : G.priority x ≡ G.priority v = ap G.priority e in inr (omega arith, rw (← e) (winners w (rw e t) r)))
        ]

  -- ---- every set has one

  abbrev Smaller : Set → Type 0
  Smaller S = (T : Set) → count n T < count n S → OrderOn T

  -- v doesn't reach x
  misses : Set → ℕ → Bool
  misses S v = S v & any_below n (λ x. S x & not (reached S v x))

  order_step : (S : Set) → Smaller S → OrderOn S
  unfolding misses
  order_step S rec = elim (decide (any_below n (misses S))) [
    | inl t ↦ (
        let r = any_out t in
        let b = and_out r.2 in
        let q = any_out b.1 in
        let c = and_out q.2 in
        split r.0 r.1 b.0 q.0 q.1 c.0 (not_out c.1))
    | inr f ↦ elim (lowest G S n) [
      | inl e ↦ empty S e
      | inr l ↦ first_order S l (λ w h s. reach f w h s l) (rec (minus S (eqb l.at)) (without S l))
    ]
  ]
    where
      split : (v : ℕ) → v < n → So (S v) → (y : ℕ) → y < n → So (S y) → reached S v y ≡ false → OrderOn S
      split v h s y i z f =
          joined_order S (reached S v) (reached_in S v) (λ a b t e q. reached_on S v a b t e q)
          (rec (reached S v) (count_less n (reached S v) S (λ j l t. reached_in S v j t) y i f z))
          (rec (minus S (reached S v)) (minus_less G S (reached S v) v h s (reached_self S v s)))

      reach : any_below n (misses S) ≡ false → (w : ℕ) → w < n → So (S w) → (l : Lowest G S n) → So (reached S w l.at)
      reach f w h s l = elim (decide (reached S w l.at)) [
        | inl t ↦ t
        | inr g ↦ clash (and_in s (any_in n (λ x. S x & not (reached S w x)) l.at l.inside (and_in l.member (not_in g)))) (any_fails n (misses S) f w h)
      ]

  order_within : (f : ℕ) (S : Set) → count n S ≤ f → OrderOn S
  order_within zero S h = order_step S (λ T l. absurd (omega arith))
  order_within (suc f) S h = order_step S (λ T l. order_within f T (omega arith))

  pub order_all : OrderOn (whole G)
  order_all = order_within (count n (whole G)) (whole G) (le_refl (count n (whole G)))

  pub good_ordered : Ordered G win kept order_all.place
  good_ordered = record {
    falls = λ v w t e l. order_all.falls v w t (whole_in G v (k.source v w t)) (whole_in G w (k.target v w t)) e l;
    rises = λ v w t u h a b. order_all.rises v w t (whole_in G v (k.source v w t)) (whole_in G w (k.target v w t)) u h (whole_in G u h) a b;
  }
