-- Laws of bounded "each", "some" and "the first".
use Rattle.std.specs.Prelude.{◌≡◌, ◌⊎◌, Bool, cond, ltb}
use Rattle.std.proofs.Math.Path.{refl}
use Rattle.std.proofs.Common.{sym, subst, ap, ap₂, ◌∙◌, inl, inr, le_of_suc-le-suc, not-suc-le-zero, leb-true, le-leb, ltb-false, le-ltb}
use Rattle.std.proofs.Math.Bool.{true, false, So}
use Rattle.std.proofs.lemmas.Bool.{false≢true}
use Prim.Native.Nat.{ℕ, zero, suc, ◌+◌, ◌-◌, ◌≤◌, ◌<◌}
use Rattle.std.proofs.Math.Decide.{dec_lt}
use Rattle.std.proofs.Math.Numerals.{add-one}
use native.Mathlib.Omega.{arith}
use Rattle.theory.specs.Logic.Bools.{◌&◌, ◌or◌}
use Rattle.theory.proofs.Logic.BoolsLaws.{decide, clash, So_ext, So_not, and_in, and_out, or_left, or_right, or_out, or_false}
use Rattle.theory.specs.Logic.Range.{all_below, any_below, any_from, first_of, first}

-- ---- below a bound

at_most : (i n : ℕ) → i ≤ n → ¬ (i < n) → i ≡ n
at_most i n k m = omega arith

-- what holds below n, and of n, holds below suc n
pub below_suc {ℓ} : (P : ℕ → Type ℓ) {n : ℕ} → ((i : ℕ) → i < n → P i) → P n → (i : ℕ) → i < suc n → P i
below_suc P {n} f x i h = go (le_of_suc-le-suc h)
  where
    go : i ≤ n → P i
    go k = elim (dec_lt i n) [ yes l ↦ f i l | no m ↦ subst P (sym (at_most i n k m)) x ]

-- ---- each

pub all_in : (n : ℕ) (p : ℕ → Bool) → ((i : ℕ) → i < n → So (p i)) → So (all_below n p)
unfolding all_below
all_in zero p f = refl
all_in (suc n) p f = and_in (all_in n p (λ i h. f i (omega arith))) (f n (omega arith))

all_at : (n : ℕ) (p : ℕ → Bool) → So (all_below n p) → (i : ℕ) → i < n → So (p i)
unfolding all_below
all_at zero p a i h = absurd (not-suc-le-zero h)
all_at (suc n) p a i h = below_suc (λ (j : ℕ). So (p j)) (λ j l. all_at n p (and_out a).0 j l) (and_out a).1 i h

-- a record, so that a use of `all_out` finds n and p by itself
pub record Each (n : ℕ) (p : ℕ → Bool) : Type 0 where
  pub at : (i : ℕ) → i < n → So (p i)

pub all_out : {n : ℕ} {p : ℕ → Bool} → So (all_below n p) → Each n p
all_out {n} {p} a = record { at = all_at n p a }

-- what is not true of each is false of one
pub all_fails : (n : ℕ) (p : ℕ → Bool) → all_below n p ≡ false → (i : ℕ) × (i < n) × (p i ≡ false)
unfolding all_below ◌&◌
all_fails zero p e = absurd (false≢true (sym e))
all_fails (suc n) p e = go (decide (all_below n p)) (all_fails n p)
  where
    go : So (all_below n p) ⊎ (all_below n p ≡ false) → (all_below n p ≡ false → (i : ℕ) × (i < n) × (p i ≡ false))
        → (i : ℕ) × (i < suc n) × (p i ≡ false)
    go (inl a) ih = (n, omega arith, subst (λ (b : Bool). b & p n ≡ false) a e)
    go (inr a) ih = let x = ih a in (x.0, omega arith, x.2)

-- it goes by the values of the test
pub all_ext : (n : ℕ) (p q : ℕ → Bool) → ((i : ℕ) → i < n → p i ≡ q i) → all_below n p ≡ all_below n q
unfolding all_below
all_ext zero p q h = refl
all_ext (suc n) p q h = ap₂ ◌&◌ (all_ext n p q (λ i l. h i (omega arith))) (h n (omega arith))

-- one number more
pub all_more : (n : ℕ) (p : ℕ → Bool) → all_below (n + 1) p ≡ all_below n p & p n
unfolding all_below
all_more n p = rw (add-one n)

-- ---- some

pub any_in : (n : ℕ) (p : ℕ → Bool) (i : ℕ) → i < n → So (p i) → So (any_below n p)
unfolding any_below
any_in zero p i h t = absurd (not-suc-le-zero h)
any_in (suc n) p i h t =
    below_suc (λ (j : ℕ). So (p j) → So (any_below n p or p n)) (λ j l u. or_left (p n) (any_in n p j l u)) (or_right (any_below n p)) i h t

pub any_out : {n : ℕ} {p : ℕ → Bool} → So (any_below n p) → (i : ℕ) × (i < n) × So (p i)
unfolding any_below
any_out {n = zero} {p} a = absurd (false≢true a)
any_out {n = suc n} {p} a =
    elim (or_out a) [ inl b ↦ (let r = any_out {n = n} {p = p} b in (r.0, omega arith, r.2)) | inr c ↦ (n, omega arith, c) ]

pub any_fails : (n : ℕ) (p : ℕ → Bool) → any_below n p ≡ false → (i : ℕ) → i < n → p i ≡ false
any_fails n p e i h = elim (decide (p i)) [ inl t ↦ clash (any_in n p i h t) e | inr f ↦ f ]

-- it goes by the values of the test
pub any_ext : (n : ℕ) (p q : ℕ → Bool) → ((i : ℕ) → i < n → p i ≡ q i) → any_below n p ≡ any_below n q
unfolding any_below
any_ext zero p q h = refl
any_ext (suc n) p q h = ap₂ ◌or◌ (any_ext n p q (λ i l. h i (omega arith))) (h n (omega arith))

-- one number more
pub any_more : (n : ℕ) (p : ℕ → Bool) → any_below (n + 1) p ≡ (any_below n p or p n)
unfolding any_below
any_more n p = rw (add-one n)

-- and one that doesn't pass
pub any_same : (n : ℕ) (p : ℕ → Bool) → p n ≡ false → any_below (n + 1) p ≡ any_below n p
any_same n p e = any_more n p ∙ rw e (or_false (any_below n p))

-- below n, or from n on
pub any_append : (n m : ℕ) (p : ℕ → Bool) → any_below (n + m) p ≡ (any_below n p or any_below m (λ i. p (n + i)))
any_append n m p =
    So_ext
    (λ t. let r = any_out t in elim (dec_lt r.0 n) [
      | yes h ↦ or_left _ (any_in n p r.0 h r.2)
      | no h ↦ (let e : n + (r.0 - n) ≡ r.0 = omega arith in
          or_right _ (any_in m (λ i. p (n + i)) (r.0 - n) (omega (arith, r.1)) (ap p e ∙ r.2)))
    ])
    (λ t. elim (or_out t) [
      | inl a ↦ (let r = any_out a in any_in (n + m) p r.0 (omega (arith, r.1)) r.2)
      | inr b ↦ (let r = any_out b in any_in (n + m) p (n + r.0) (omega (arith, r.1)) r.2)
    ])

-- ---- some, from a number on

pub from_in : (a e : ℕ) (p : ℕ → Bool) (i : ℕ) → a ≤ i → i < e → So (p i) → So (any_from a e p)
unfolding any_from
from_in a e p i h k t = any_in e _ i k (and_in (le-leb a i h) t)

pub record Hit (a e : ℕ) (p : ℕ → Bool) : Type 0 where
  pub at : ℕ
  pub low : a ≤ at
  pub high : at < e
  pub passes : So (p at)

pub from_out : {a e : ℕ} {p : ℕ → Bool} → So (any_from a e p) → Hit a e p
unfolding any_from
from_out {a} {e} {p} t =
    let r = any_out t in
    let c = and_out r.2 in
    record { at = r.0; low = leb-true a r.0 c.0; high = r.1; passes = c.1 }

module _ (a e : ℕ) (p : ℕ → Bool) where
  pub from_end : e ≤ a → any_from a e p ≡ false
  from_end h = So_not (λ t. let r = from_out t in omega (arith, r.low, r.high))

  -- a first number that doesn't pass
  pub from_step : p a ≡ false → any_from a e p ≡ any_from (a + 1) e p
  from_step f =
      So_ext
      (λ t. let r = from_out t in elim (dec_lt a r.at) [
        | yes l ↦ from_in (a + 1) e p r.at (omega arith) r.high r.passes
        | no m ↦ (let d : r.at ≡ a = omega (arith, r.low) in clash r.passes (rw d f))
      ])
      (λ t. let r = from_out t in from_in a e p r.at (omega (arith, r.low)) r.high r.passes)

  -- a last number more
  pub from_more : So (any_from a (e + 1) p) → So (any_from a e p) ⊎ So (p e)
  from_more t =
      let r = from_out t in
      elim (dec_lt r.at e) [
        | yes l ↦ inl (from_in a e p r.at r.low l r.passes)
        | no m ↦ (let d : r.at ≡ e = omega (arith, r.high) in inr (subst (λ (i : ℕ). So (p i)) d r.passes))
      ]

  pub from_less : So (any_from a e p) → So (any_from a (e + 1) p)
  from_less t = let r = from_out t in from_in a (e + 1) p r.at r.low (omega (arith, r.high)) r.passes

  -- and one that doesn't pass
  pub from_same : p e ≡ false → any_from a (e + 1) p ≡ any_from a e p
  from_same f = So_ext (λ t. elim (from_more t) [ inl s ↦ s | inr s ↦ clash s f ]) from_less

-- ---- the first: one step of a search, its end, and what it finds

module _ (p : ℕ → Bool) where
  pub first_step : (k e : ℕ) → k < e → p k ≡ false → first p k e ≡ first p (k + 1) e
  unfolding first first_of
  first_step k e l h =
      let q : e - k ≡ suc (e - (k + 1)) = omega arith in
      rw (q, h, add-one k)

  pub first_hit : (k e : ℕ) → k < e → So (p k) → first p k e ≡ k
  unfolding first first_of
  first_hit k e l h =
      let q : e - k ≡ suc (e - (k + 1)) = omega arith in
      rw (q, h)

  pub first_end_lem : (k e : ℕ) → e ≤ k → first p k e ≡ k
  unfolding first first_of
  first_end_lem k e l =
      let q : e - k ≡ 0 = omega arith in
      rw q

  -- what a search with f numbers to look at finds
  record Found (f k r : ℕ) : Type 0 where
    from : k ≤ r
    within : r ≤ k + f
    before : (j : ℕ) → k ≤ j → j < r → p j ≡ false
    passes : r < k + f → So (p r)

  found : (f k : ℕ) → Found f k (first_of p f k)
  unfolding first_of
  found zero k = record { from = omega arith; within = omega arith; before = λ j a b. absurd (omega arith); passes = λ h. absurd (omega arith) }
  found (suc f) k = go (p k) refl (found f (suc k))
    where
      go : (b : Bool) {r : ℕ} → p k ≡ b → Found f (suc k) r → Found (suc f) k (cond b k r)
      go true e ih = record { from = omega arith; within = omega arith; before = λ j a b. absurd (omega arith); passes = λ h. e }
      go false {r} e ih = record {
        from = omega (arith, ih.from);
        within = omega (arith, ih.within);
        before = λ j a b. elim (dec_lt k j) [ yes l ↦ ih.before j l b | no m ↦ rw (← at_most k j a m) e ];
        passes = λ h. ih.passes (omega arith);
      }

  pub first_ge : (a e : ℕ) → a ≤ first p a e
  unfolding first
  first_ge a e = (found (e - a) a).from

  pub first_le : (a e : ℕ) → a ≤ e → first p a e ≤ e
  unfolding first
  first_le a e h = omega (arith, (found (e - a) a).within)

  pub first_before : (a e j : ℕ) → a ≤ j → j < first p a e → p j ≡ false
  unfolding first
  first_before a e j = (found (e - a) a).before j

  pub first_passes : (a e : ℕ) → a ≤ e → first p a e < e → So (p (first p a e))
  unfolding first
  first_passes a e h l = (found (e - a) a).passes (omega arith)

  pub first_least : (a e i : ℕ) → a ≤ i → So (p i) → first p a e ≤ i
  first_least a e i h t = elim (dec_lt i (first p a e)) [ yes l ↦ clash t (first_before a e i h l) | no m ↦ omega arith ]

  -- where one passes, one is found
  pub first_found : (e i : ℕ) → i < e → So (p i) → (first p 0 e < e) × So (p (first p 0 e))
  first_found e i l t = let h : first p 0 e < e = omega (arith, first_least 0 e i (omega arith) t) in (h, first_passes 0 e (omega arith) h)

  -- what passes, with nothing before it that does, is the first
  pub first_is : (a e r : ℕ) → a ≤ r → r < e → So (p r) → ((j : ℕ) → a ≤ j → j < r → p j ≡ false) → first p a e ≡ r
  first_is a e r l m t h =
      let least = first_least a e r l t in
      elim (dec_lt (first p a e) r) [
        | yes x ↦ clash (first_passes a e (omega arith) (omega arith)) (h (first p a e) (first_ge a e) x)
        | no y ↦ omega arith
      ]

  -- where nothing passes, the search comes to the end
  pub first_none : (a e : ℕ) → a ≤ e → ((i : ℕ) → a ≤ i → i < e → p i ≡ false) → e ≤ first p a e
  first_none a e h f = elim (dec_lt (first p a e) e) [ yes l ↦ clash (first_passes a e h l) (f (first p a e) (first_ge a e) l) | no m ↦ omega arith ]

  -- a search from 0 on that finds nothing
  pub none_found : (e : ℕ) → ltb (first p 0 e) e ≡ false → (i : ℕ) → i < e → p i ≡ false
  none_found e f i h = first_before 0 e i (omega arith) (omega (arith, ltb-false (first p 0 e) e f))

  pub found_none : (e : ℕ) → ((i : ℕ) → i < e → p i ≡ false) → ltb (first p 0 e) e ≡ false
  found_none e f = le-ltb (first p 0 e) e (first_none 0 e (omega arith) (λ i l. f i))

-- it goes by the values of the test

first_of_ext : (p q : ℕ → Bool) (f k : ℕ) → ((i : ℕ) → k ≤ i → i < k + f → p i ≡ q i) → first_of p f k ≡ first_of q f k
unfolding first_of
first_of_ext p q zero k h = refl
first_of_ext p q (suc f) k h = rw (h k (omega arith) (omega arith), first_of_ext p q f (suc k) (λ i l m. h i (omega arith) (omega arith)))

-- numbers that don't pass are skipped
pub first_skip : (p : ℕ → Bool) (a b e : ℕ) → a ≤ b → b ≤ e → ((i : ℕ) → a ≤ i → i < b → p i ≡ false) → first p a e ≡ first p b e
first_skip p a b e l m f = elim (dec_lt (first p b e) e) [
  | yes h ↦ first_is p a e (first p b e) (omega (arith, first_ge p b e)) h (first_passes p b e m h)
      (λ j x y. elim (dec_lt j b) [ yes z ↦ f j x z | no z ↦ first_before p b e j (omega arith) y ])
  | no h ↦
      (let n = first_none p a e (omega arith) (λ i x y. elim (dec_lt i b) [ yes z ↦ f i x z | no z ↦ first_before p b e i (omega arith) (omega arith) ]) in
      omega (arith, n, first_le p a e (omega arith), first_le p b e m))
]

pub first_ext : (p q : ℕ → Bool) (a e : ℕ) → ((i : ℕ) → a ≤ i → i < e → p i ≡ q i) → first p a e ≡ first q a e
unfolding first
first_ext p q a e h = first_of_ext p q (e - a) a (λ i l m. h i l (omega arith))
