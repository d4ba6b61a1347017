-- Regions and how they grow. A layer is put around a region: no link leads out of the region again, so a closed walk lies in the region or in
-- the layer, and each has its own reason to be won. Nothing else is needed of walks here: none is cut or turned.
use Rattle.std.specs.Prelude.{◌≡◌, ◌⊎◌, false, not, ℕ, zero, suc, ◌≤◌, ◌<◌, min}
use Rattle.std.proofs.Math.Path.{refl}
use Rattle.std.proofs.Common.{subst, le_refl, le_antisymm, not-suc-le-zero, arith}
use Rattle.std.proofs.Math.Logic.{inl, inr}
use Rattle.std.proofs.Math.Bool.{So}
use Rattle.std.proofs.lemmas.Bool.{false≢true}
use mathlib.Core.List.{List, [], ◌∷◌}
use Rattle.std.proofs.Math.Decide.{dec_lt}
use Rattle.theory.specs.Logic.Bools.{◌&◌, ◌or◌}
use Rattle.theory.proofs.Logic.BoolsLaws.{decide, clash, So_not, not_in, not_out, and_in, and_out, or_left, or_right, or_out}
use Rattle.theory.specs.Logic.Range.{count}
use Rattle.theory.proofs.Logic.RangeLaws.{below_suc}
use Rattle.theory.proofs.Logic.CountLaws.{count_less}
use Rattle.theory.specs.Order.Passes.{Rel}
use Rattle.theory.specs.Games.Game.{Player, parity, Game, own}
use Rattle.theory.specs.Plans.Plan.{Walk, seen}
use Rattle.theory.specs.Plans.Returns.{In}
use Rattle.theory.proofs.Plans.WalkLaws.{seen_le, seen_ge}
use Rattle.theory.specs.Winners.Region.{Set, none, union, minus, Lowest, Subgame, Region, Layer, layered}

-- ---- sets

pub union_left : (B D : Set) (v : ℕ) → So (B v) → So (union B D v)
unfolding union
union_left B D v t = or_left (D v) t

pub union_right : (B D : Set) (v : ℕ) → So (D v) → So (union B D v)
unfolding union
union_right B D v t = or_right (B v) t

pub union_out : (B D : Set) (v : ℕ) → So (union B D v) → So (B v) ⊎ So (D v)
unfolding union
union_out B D v t = or_out t

pub minus_in : (S B : Set) (v : ℕ) → So (S v) → B v ≡ false → So (minus S B v)
unfolding minus
minus_in S B v s f = and_in s (not_in f)

pub minus_out : (S B : Set) (v : ℕ) → So (minus S B v) → So (S v) × (B v ≡ false)
unfolding minus
minus_out S B v t = let p = and_out t in (p.0, not_out p.1)

-- S without a set that holds u of S has fewer vertices
pub minus_less : (G : Game) (S B : Set) (u : ℕ) → u < G.n → So (S u) → So (B u) → count G.n (minus S B) < count G.n S
minus_less G S B u h s b =
    count_less G.n (minus S B) S (λ v l t. (minus_out S B v t).0) u h (So_not (λ t. clash b (minus_out S B u t).1)) s

-- S has a vertex of the lowest priority among those below k, or none below k at all
pub lowest : (G : Game) (S : Set) (k : ℕ) → ((v : ℕ) → v < k → S v ≡ false) ⊎ Lowest G S k
lowest G S zero = inl (λ v h. absurd (not-suc-le-zero h))
lowest G S (suc k) = go (decide (S k)) (lowest G S k)
  where
    more : (i : ℕ) → i < suc k → So (S i) → ((v : ℕ) → v < k → So (S v) → G.priority i ≤ G.priority v) → (So (S k) → G.priority i ≤ G.priority k)
        → ((v : ℕ) → v < suc k → S v ≡ false) ⊎ Lowest G S (suc k)
    more i h s f g = inr (record { at = i; inside = h; member = s; least = below_suc (λ (v : ℕ). So (S v) → G.priority i ≤ G.priority v) f g })

    go : So (S k) ⊎ (S k ≡ false) → ((v : ℕ) → v < k → S v ≡ false) ⊎ Lowest G S k → ((v : ℕ) → v < suc k → S v ≡ false) ⊎ Lowest G S (suc k)
    go (inl s) (inl f) = more k (omega arith) s (λ v h t. clash t (f v h)) (λ t. le_refl (G.priority k))
    go (inr g) (inl f) = inl (below_suc (λ (v : ℕ). S v ≡ false) f g)
    go (inl s) (inr l) = elim (dec_lt (G.priority k) (G.priority l.at)) [
      | yes h ↦ more k (omega arith) s (λ v i t. omega (arith, l.least v i t)) (λ t. le_refl (G.priority k))
      | no h ↦ more l.at (omega (arith, l.inside)) l.member l.least (λ t. omega arith)
    ]
    go (inr g) (inr l) = more l.at (omega (arith, l.inside)) l.member l.least (λ t. clash t g)

-- ---- walks by the links of B, which never lead out of it, and by others that start outside

module _ (B : Set) (σ τ : Rel) (source : (v w : ℕ) → So (σ v w) → So (B v)) (target : (v w : ℕ) → So (σ v w) → So (B w)) where
  abbrev link : Rel
  link = layered B σ τ

  link_inner : (v w : ℕ) → So (B v) → So (link v w) → So (σ v w)
  unfolding layered
  link_inner v w b t = elim (or_out t) [ inl s ↦ s | inr u ↦ clash b (not_out (and_out u).0) ]

  link_outer : (v w : ℕ) → B v ≡ false → So (link v w) → So (τ v w)
  unfolding layered
  link_outer v w f t = elim (or_out t) [ inl s ↦ clash (source v w s) f | inr u ↦ (and_out u).1 ]

  walk_inner : (v : ℕ) (ks : List ℕ) (e : ℕ) → So (B v) → Walk link v ks e → Walk σ v ks e × So (B e)
  walk_inner v [] e b t = let s = link_inner v e b t in (s, target v e s)
  walk_inner v (k ∷ ks) e b t =
      let s = link_inner v k b t.0 in
      let r = walk_inner k ks e (target v k s) t.1 in
      ((s, r.0), r.1)

  -- what ends outside began outside
  begins_outer : (v : ℕ) (ks : List ℕ) (e : ℕ) → B e ≡ false → Walk link v ks e → B v ≡ false
  begins_outer v ks e f t = elim (decide (B v)) [ inl b ↦ clash (walk_inner v ks e b t).1 f | inr g ↦ g ]

  walk_outer : (v : ℕ) (ks : List ℕ) (e : ℕ) → B e ≡ false → Walk link v ks e → Walk τ v ks e
  walk_outer v [] e f t = link_outer v e (begins_outer v [] e f t) t
  walk_outer v (k ∷ ks) e f t = (link_outer v k (begins_outer v (k ∷ ks) e f t) t.0, walk_outer k ks e f t.1)

  stays_outer : (v : ℕ) (ks : List ℕ) (e : ℕ) → B e ≡ false → Walk link v ks e → (k : ℕ) → In k (v ∷ ks) → B k ≡ false
  stays_outer v [] e f t k (inl q) = rw q (begins_outer v [] e f t)
  stays_outer v [] e f t k (inr m) = absurd m
  stays_outer v (l ∷ ls) e f t k (inl q) = rw q (begins_outer v (l ∷ ls) e f t)
  stays_outer v (l ∷ ls) e f t k (inr m) = stays_outer l ls e f t.1 k m

-- ---- a region and a layer around it

module _ (G : Game) (x : Player) (S T B D : Set) (r : Region G x S T B) (l : Layer G x S B D) where
  around : Rel
  around = layered B r.link l.link

  around_inner : (v w : ℕ) → So (r.link v w) → So (around v w)
  unfolding around layered
  around_inner v w t = or_left (not (B v) & l.link v w) t

  around_outer : (v w : ℕ) → B v ≡ false → So (l.link v w) → So (around v w)
  unfolding around layered
  around_outer v w f t = or_right (r.link v w) (and_in (not_in f) t)

  around_out : (v w : ℕ) → So (around v w) → So (r.link v w) ⊎ ((B v ≡ false) × So (l.link v w))
  unfolding around layered
  around_out v w t = elim (or_out t) [ inl a ↦ inl a | inr b ↦ (let p = and_out b in inr (not_out p.0, p.1)) ]

  -- the target lies in B
  free : (v : ℕ) → B v ≡ false → T v ≡ false
  free v f = elim (decide (T v)) [ inl t ↦ clash (r.holds v t) f | inr g ↦ g ]

  around_closed : (v : ℕ) (ks : List ℕ) → Walk around v ks v → So (parity x (seen min G.priority v ks))
  unfolding around
  around_closed v ks t = elim (decide (B v)) [
    | inl b ↦ r.closed v ks (walk_inner B r.link l.link r.source r.target v ks v b t).0
    | inr f ↦ l.closed v ks (walk_outer B r.link l.link r.source r.target v ks v f t)
        (stays_outer B r.link l.link r.source r.target v ks v f t)
  ]

  pub region_layer : Region G x S T (union B D)
  region_layer = record {
    link = around;
    holds = λ v t. union_left B D v (r.holds v t);
    inside = λ v t. elim (union_out B D v t) [ inl b ↦ r.inside v b | inr d ↦ l.inside v d ];
    source = λ v w t. elim (around_out v w t) [ inl a ↦ union_left B D v (r.source v w a) | inr b ↦ union_right B D v (l.source v w b.1) ];
    target = λ v w t. elim (around_out v w t) [
      | inl a ↦ union_left B D w (r.target v w a)
      | inr b ↦ elim (l.target v w b.1) [ inl c ↦ union_left B D w c | inr d ↦ union_right B D w d ]
    ];
    leaves = λ v w t. elim (around_out v w t) [ inl a ↦ r.leaves v w a | inr b ↦ free v b.0 ];
    follows = λ v w t. elim (around_out v w t) [ inl a ↦ r.follows v w a | inr b ↦ l.follows v w b.1 ];
    moves = λ v t f o. elim (decide (B v)) [
      | inl b ↦ (let m = r.moves v b f o in (m.0, around_inner v m.0 m.1))
      | inr g ↦ (let m = l.moves v (outer v t g) o in (m.0, around_outer v m.0 g m.1))
    ];
    answers = λ v t f o w s e. elim (decide (B v)) [
      | inl b ↦ around_inner v w (r.answers v b f o w s e)
      | inr g ↦ around_outer v w g (l.answers v (outer v t g) o w s e)
    ];
    closed = around_closed;
  }
    where
      outer : (v : ℕ) → So (union B D v) → B v ≡ false → So (D v)
      outer v t g = elim (union_out B D v t) [ inl b ↦ clash b g | inr d ↦ d ]

-- ---- a region of the subgame without B is a layer around B

module _ (G : Game) (x : Player) (S B D : Set) (r : Region G x (minus S B) none D) where
  -- its links, and from the opponent's vertices also the edges into B
  out : Rel
  out v w = r.link v w or (D v & not (own G x v) & B w & G.edge v w)

  out_cases : (v w : ℕ) → So (out v w) → So (r.link v w) ⊎ (So (D v) × So (B w) × So (G.edge v w))
  unfolding out
  out_cases v w t = elim (or_out t) [
    | inl a ↦ inl a
    | inr b ↦ (
        let p = and_out b in
        let q = and_out p.0 in
        inr ((and_out q.0).0, q.1, p.1))
  ]

  -- as long as a walk stays out of B it goes by the region's links
  out_walk : (v : ℕ) (ks : List ℕ) (e : ℕ) → B e ≡ false → ((k : ℕ) → In k ks → B k ≡ false) → Walk out v ks e → Walk r.link v ks e
  out_walk v [] e g f t = elim (out_cases v e t) [ inl a ↦ a | inr b ↦ clash b.1 g ]
  out_walk v (k ∷ ks) e g f t =
      (elim (out_cases v k t.0) [ inl a ↦ a | inr b ↦ clash b.1 (f k (inl refl)) ], out_walk k ks e g (λ i m. f i (inr m)) t.1)

  pub layer_region : Layer G x S B D
  unfolding out none
  layer_region = record {
    link = out;
    inside = λ v t. (minus_out S B v (r.inside v t)).0;
    source = λ v w t. elim (out_cases v w t) [ inl a ↦ r.source v w a | inr b ↦ b.0 ];
    target = λ v w t. elim (out_cases v w t) [ inl a ↦ inr (r.target v w a) | inr b ↦ inl b.1 ];
    follows = λ v w t. elim (out_cases v w t) [ inl a ↦ r.follows v w a | inr b ↦ b.2 ];
    moves = λ v t o. let m = r.moves v t refl o in (m.0, or_left _ m.1);
    answers = λ v t o w s e. elim (decide (B w)) [
      | inl b ↦ or_right (r.link v w) (and_in (and_in (and_in t (not_in o)) b) e)
      | inr g ↦ or_left _ (r.answers v t refl o w (minus_in S B w s g) e)
    ];
    closed = λ v ks t f. r.closed v ks (out_walk v ks v (f v (inl refl)) (λ k m. f k (inr m)) t);
  }

-- ---- the target alone, with no link, is a region

pub region_target : (G : Game) (x : Player) (S T : Set) → ((v : ℕ) → So (T v) → So (S v)) → Region G x S T T
region_target G x S T h = record {
  link = λ v w. false;
  holds = λ v t. t;
  inside = h;
  source = λ v w t. absurd (false≢true t);
  target = λ v w t. absurd (false≢true t);
  leaves = λ v w t. absurd (false≢true t);
  follows = λ v w t. absurd (false≢true t);
  moves = λ v t f o. clash t f;
  answers = λ v t f o w s e. clash t f;
  closed = still;
}
  where
    still : (v : ℕ) (ks : List ℕ) → Walk (λ v w. false) v ks v → So (parity x (seen min G.priority v ks))
    still v [] t = absurd (false≢true t)
    still v (k ∷ ks) t = absurd (false≢true t.0)

-- ---- a region that covers the subgame

pub region_whole : (G : Game) (x : Player) (S T W : Set) → Region G x S T W → ((v : ℕ) → So (S v) → So (W v)) → Region G x S T S
region_whole G x S T W r all = record {
  link = r.link;
  holds = λ v t. r.inside v (r.holds v t);
  inside = λ v t. t;
  source = λ v w t. r.inside v (r.source v w t);
  target = λ v w t. r.inside w (r.target v w t);
  leaves = r.leaves;
  follows = r.follows;
  moves = λ v t. r.moves v (all v t);
  answers = λ v t. r.answers v (all v t);
  closed = r.closed;
}

-- ---- where the target has the lowest priority and x its parity, x wins without a target: from there x goes on as the subgame allows, and a
-- closed walk sees the target's priority or is one of the old ones

module _ (G : Game) (x : Player) (S T : Set) (sub : Subgame G S) (q : ℕ) (low : (v : ℕ) → So (S v) → q ≤ G.priority v)
    (at : (v : ℕ) → So (T v) → G.priority v ≡ q) (good : So (parity x q)) (r : Region G x S T S) where
  back : Rel
  back v w = r.link v w or (T v & (S w & G.edge v w))

  back_source : (v w : ℕ) → So (back v w) → So (S v)
  unfolding back
  back_source v w t = elim (or_out t) [ inl a ↦ r.source v w a | inr b ↦ r.inside v (r.holds v (and_out b).0) ]

  back_in : (v : ℕ) (ks : List ℕ) (e : ℕ) → Walk back v ks e → (k : ℕ) → In k (v ∷ ks) → So (S k)
  back_in v [] e t k (inl d) = rw d (back_source v e t)
  back_in v [] e t k (inr m) = absurd m
  back_in v (l ∷ ls) e t k (inl d) = rw d (back_source v l t.0)
  back_in v (l ∷ ls) e t k (inr m) = back_in l ls e t.1 k m

  -- a walk passes the target, or goes by the old links
  meets : (v : ℕ) (ks : List ℕ) (e : ℕ) → Walk back v ks e → ((k : ℕ) × In k (v ∷ ks) × So (T k)) ⊎ Walk r.link v ks e
  unfolding back
  meets v [] e t = elim (or_out t) [ inl a ↦ inr a | inr b ↦ inl (v, inl refl, (and_out b).0) ]
  meets v (l ∷ ls) e t = elim (or_out t.0) [ inl a ↦ go a (meets l ls e t.1) | inr b ↦ inl (v, inl refl, (and_out b).0) ]
    where
      go : So (r.link v l) → ((k : ℕ) × In k (l ∷ ls) × So (T k)) ⊎ Walk r.link l ls e
          → ((k : ℕ) × In k (v ∷ l ∷ ls) × So (T k)) ⊎ Walk r.link v (l ∷ ls) e
      go a (inl (k, m, u)) = inl (k, inr m, u)
      go a (inr w) = inr (a, w)

  back_closed : (v : ℕ) (ks : List ℕ) → Walk back v ks v → So (parity x (seen min G.priority v ks))
  back_closed v ks t = go (meets v ks v t)
    where
      go : ((k : ℕ) × In k (v ∷ ks) × So (T k)) ⊎ Walk r.link v ks v → So (parity x (seen min G.priority v ks))
      go (inl (k, m, u)) =
          let lowest : q ≡ seen min G.priority v ks =
          le_antisymm (seen_ge G.priority q v ks (λ i n. low i (back_in v ks v t i n)))
          (subst (λ (z : ℕ). seen min G.priority v ks ≤ z) (at k u) (seen_le G.priority v ks k m)) in
          subst (λ (z : ℕ). So (parity x z)) lowest good
      go (inr w) = r.closed v ks w

  pub region_recurs : Region G x S none S
  unfolding back none
  region_recurs = record {
    link = back;
    holds = λ v t. absurd (false≢true t);
    inside = λ v t. t;
    source = back_source;
    target = λ v w t. elim (or_out t) [ inl a ↦ r.target v w a | inr b ↦ (and_out (and_out b).1).0 ];
    leaves = λ v w t. refl;
    follows = λ v w t. elim (or_out t) [ inl a ↦ r.follows v w a | inr b ↦ (and_out (and_out b).1).1 ];
    moves = λ v t f o. elim (decide (T v)) [
      | inl u ↦ (let w = sub.total v t in (w.0, or_right (r.link v w.0) (and_in u (and_in w.1 w.2))))
      | inr g ↦ (let m = r.moves v t g o in (m.0, or_left _ m.1))
    ];
    answers = λ v t f o w s e. elim (decide (T v)) [
      | inl u ↦ or_right (r.link v w) (and_in u (and_in s e))
      | inr g ↦ or_left _ (r.answers v t g o w s e)
    ];
    closed = back_closed;
  }
