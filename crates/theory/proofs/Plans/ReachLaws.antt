-- The computed `reaches` covers walks of any length: a walk over more than p of p positions passes one of them twice, and the part
-- between the two visits can be left out.
use Rattle.std.specs.Prelude.{◌≡◌, refl, ◌⊎◌, Bool, length, get_or, take, drop}
use Rattle.std.proofs.Math.Path.{ap₂}
use Rattle.std.proofs.Common.{subst, inl, inr, not-suc-le-zero, le_of_suc-le-suc, arith, length-append, length-take, length-drop}
use Rattle.std.proofs.Math.Bool.{So}
use mathlib.Core.List.{List, [], ◌∷◌, ◌++◌}
use Prim.Native.Nat.{ℕ, zero, suc, ◌+◌, ◌≤◌, ◌<◌}
use Rattle.std.proofs.Math.Decide.{dec_le}
use Rattle.theory.specs.Logic.Bools.{◌&◌, ◌or◌}
use Rattle.theory.proofs.Logic.BoolsLaws.{and_in, and_out, or_left, or_right, or_out}
use Rattle.theory.specs.Logic.Range.{any_below}
use Rattle.theory.proofs.Logic.RangeLaws.{any_in, any_out, any_ext}
use Rattle.theory.proofs.Logic.CountLaws.{pigeonhole}
use Rattle.theory.specs.Plans.Plan.{Walk}
use Rattle.theory.specs.Plans.Returns.{In}
use Rattle.theory.proofs.Plans.WalkLaws.{walk_join}
use Rattle.theory.specs.Plans.Reach.{Each, Reach, reaches}

-- ---- what holds of each in a list

module _ (P : ℕ → Type 0) where
  pub each_append : (ks ls : List ℕ) → Each P ks → Each P ls → Each P (ks ++ ls)
  each_append [] ls a b = b
  each_append (k ∷ ks) ls a b = (a.0, each_append ks ls a.1 b)

  each_take : (n : ℕ) (ks : List ℕ) → Each P ks → Each P (take n ks)
  each_take zero ks a = tt
  each_take (suc n) [] a = tt
  each_take (suc n) (k ∷ ks) a = (a.0, each_take n ks a.1)

  each_drop : (n : ℕ) (ks : List ℕ) → Each P ks → Each P (drop n ks)
  each_drop zero ks a = a
  each_drop (suc n) [] a = tt
  each_drop (suc n) (k ∷ ks) a = each_drop n ks a.1

  each_at : (n : ℕ) (ks : List ℕ) → n < length ks → Each P ks → P (get_or ks n 0)
  each_at n [] h a = absurd (not-suc-le-zero h)
  each_at zero (k ∷ ks) h a = a.0
  each_at (suc n) (k ∷ ks) h a = each_at n ks (le_of_suc-le-suc h) a.1

  pub each_in : (ks : List ℕ) → ((k : ℕ) → In k ks → P k) → Each P ks
  each_in [] f = tt
  each_in (k ∷ ks) f = (f k (inl refl), each_in ks (λ j m. f j (inr m)))

  pub each_out : (ks : List ℕ) → Each P ks → (k : ℕ) → In k ks → P k
  each_out [] a k m = absurd m
  each_out (l ∷ ks) a k (inl e) = rw e a.0
  each_out (l ∷ ks) a k (inr m) = each_out ks a.1 k m

-- ---- shorter walks

module _ (link : ℕ → ℕ → Bool) where
  -- a walk in two parts at the n-th position between its ends
  walk_take : (i : ℕ) (ks : List ℕ) (j n : ℕ) → n < length ks → Walk link i ks j → Walk link i (take n ks) (get_or ks n 0)
  walk_take i [] j n h w = absurd (not-suc-le-zero h)
  walk_take i (k ∷ ks) j zero h w = w.0
  walk_take i (k ∷ ks) j (suc n) h w = (w.0, walk_take k ks j n (le_of_suc-le-suc h) w.1)

  walk_drop : (i : ℕ) (ks : List ℕ) (j n : ℕ) → n < length ks → Walk link i ks j → Walk link (get_or ks n 0) (drop (suc n) ks) j
  walk_drop i [] j n h w = absurd (not-suc-le-zero h)
  walk_drop i (k ∷ ks) j zero h w = w.1
  walk_drop i (k ∷ ks) j (suc n) h w = walk_drop k ks j n (le_of_suc-le-suc h) w.1

module _ (p : ℕ) (link : ℕ → ℕ → Bool) (pass : ℕ → Bool) where
  -- one part between two visits of a position is left out
  shorter : (i j : ℕ) (r : Reach p link pass i j) → p < length r.between → (s : Reach p link pass i j) × (length s.between < length r.between)
  shorter i j r h =
      let ks = r.between in
      let t = pigeonhole p (λ n. get_or ks n 0) (λ n l. (each_at (λ k. (k < p) × So (pass k)) n ks (omega arith) r.each).0) in
      let a = t.first in
      let b = t.second in
      let x = get_or ks b 0 in
      let la : a < length ks = omega (arith, t.order, t.bound) in
      let lb : b < length ks = omega (arith, t.bound) in (
        record {
          between = take a ks ++ (x ∷ drop (suc b) ks);
          walk = walk_join link i (take a ks) x (drop (suc b) ks) j (subst (Walk link i (take a ks)) t.equal (walk_take link i ks j a la r.walk)) (walk_drop link i ks j b lb r.walk);
          each = each_append (λ k. (k < p) × So (pass k)) (take a ks) (x ∷ drop (suc b) ks) (each_take _ a ks r.each) (each_at (λ k. (k < p) × So (pass k)) b ks lb r.each, each_drop _ (suc b) ks r.each);
        },
        omega (arith, length-append (take a ks) (x ∷ drop (suc b) ks), length-take a ks, length-drop (suc b) ks, t.order),
      )

  -- f is how much longer than p the walk may be
  short : (f : ℕ) (i j : ℕ) (r : Reach p link pass i j) → length r.between ≤ f + p → (s : Reach p link pass i j) × (length s.between ≤ p)
  short zero i j r h = (r, omega arith)
  short (suc f) i j r h = elim (dec_le (length r.between) p) [
    | yes l ↦ (r, l)
    | no m ↦ (let s = shorter i j r (omega arith) in short f i j s.0 (omega (arith, s.1)))
  ]

  -- ---- the computed test

  reaches_walk : (k : ℕ) (i : ℕ) (ks : List ℕ) (j : ℕ) → length ks ≤ k → Walk link i ks j → Each (λ m. (m < p) × So (pass m)) ks → So (reaches p link pass k i j)
  unfolding reaches
  reaches_walk zero i [] j h w a = w
  reaches_walk zero i (m ∷ ks) j h w a = absurd (not-suc-le-zero h)
  reaches_walk (suc k) i [] j h w a = or_left _ w
  reaches_walk (suc k) i (m ∷ ks) j h w a =
      or_right (link i j) (any_in p _ m a.0.0 (and_in (and_in w.0 a.0.1) (reaches_walk k m ks j (le_of_suc-le-suc h) w.1 a.1)))

  pub reaches_in : (i j : ℕ) → Reach p link pass i j → So (reaches p link pass p i j)
  reaches_in i j r = let s = short (length r.between) i j r (omega arith) in reaches_walk p i s.0.between j s.1 s.0.walk s.0.each

  pub reaches_out : (k : ℕ) (i j : ℕ) → So (reaches p link pass k i j) → Reach p link pass i j
  unfolding reaches
  reaches_out zero i j t = record { between = []; walk = t; each = tt }
  reaches_out (suc k) i j t = go (or_out t) (reaches_out k)
    where
      go : So (link i j) ⊎ So (any_below p (λ m. link i m & pass m & reaches p link pass k m j))
          → ((i j : ℕ) → So (reaches p link pass k i j) → Reach p link pass i j) → Reach p link pass i j
      go (inl a) ih = record { between = []; walk = a; each = tt }
      go (inr b) ih =
          let r = any_out b in
          let c = and_out r.2 in
          let d = and_out c.0 in
          let s = ih r.0 j c.1 in
          record { between = r.0 ∷ s.between; walk = (d.0, s.walk); each = ((r.1, d.1), s.each) }

  -- one link more
  pub reach_more : (i k j : ℕ) → Reach p link pass i k → k < p → So (pass k) → So (link k j) → Reach p link pass i j
  reach_more i k j r h t l = record {
    between = r.between ++ (k ∷ []);
    walk = walk_join link i r.between k [] j r.walk l;
    each = each_append (λ m. (m < p) × So (pass m)) r.between (k ∷ []) r.each ((h, t), tt);
  }

-- the same by links and positions that agree below p
module _ (p : ℕ) (link link' : ℕ → ℕ → Bool) (same : (i j : ℕ) → i < p → link i j ≡ link' i j) where
  pub reaches_ext : (pass pass' : ℕ → Bool) → ((i : ℕ) → i < p → pass i ≡ pass' i) → (k i j : ℕ) → i < p → reaches p link pass k i j ≡ reaches p link' pass' k i j
  unfolding reaches
  reaches_ext pass pass' q zero i j h = same i j h
  reaches_ext pass pass' q (suc k) i j h =
      ap₂ ◌or◌ (same i j h) (any_ext p _ _ (λ m l. ap₂ ◌&◌ (ap₂ ◌&◌ (same i m h) (q m l)) (reaches_ext pass pass' q k m j l)))
