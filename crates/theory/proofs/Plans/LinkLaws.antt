-- Laws of lists of links.
use Rattle.std.specs.Prelude.{◌≡◌, ◌⊎◌, Bool, List, [], ◌∷◌, ◌++◌, eqb, get_or}
use Rattle.std.proofs.Math.Path.{refl, subst₂}
use Rattle.std.proofs.Common.{ap, ap₂, inl, inr, append-nil, not-suc-le-zero, le_of_suc-le-suc, suc-mul, mod-lt, div-add-mod', div-lt_iff_lt-mul, arith, eqb-true, eq-eqb}
use Rattle.std.proofs.Math.Bool.{true, false, cond, So}
use Rattle.std.proofs.lemmas.Bool.{false≢true}
use Prim.Native.Nat.{ℕ, zero, suc, ◌+◌, ◌*◌, ◌/◌, ◌%◌, ◌<◌}
use Rattle.std.proofs.Math.Decide.{dec_lt}
use Rattle.std.proofs.Math.ListN.{length, length-append, get_or-append}
use Rattle.std.proofs.Math.Seq.{get_or-append_seam}
use Rattle.std.proofs.Math.Arith.{digits_lt, digits_div, digits_mod}
use Rattle.theory.specs.Logic.Bools.{◌&◌, bit}
use Rattle.theory.proofs.Logic.BoolsLaws.{and_in, and_out, or_left, or_right, or_out}
use Rattle.theory.specs.Logic.Range.{count, Before, pairs_below, pairs_of}
use Rattle.theory.proofs.Logic.RangeLaws.{below_suc}
use Rattle.theory.proofs.Logic.CountLaws.{row_lt, col_lt}
use Rattle.theory.specs.Plans.Plan.{linked}

-- ---- a link of two lists is one of either

pub linked_left : (ks ls : List (ℕ × ℕ)) (i j : ℕ) → So (linked ks i j) → So (linked (ks ++ ls) i j)
unfolding linked
linked_left [] ls i j t = absurd (false≢true t)
linked_left (k ∷ ks) ls i j t =
    elim (or_out t) [ inl a ↦ or_left (linked (ks ++ ls) i j) a | inr b ↦ or_right (eqb k.0 i & eqb k.1 j) (linked_left ks ls i j b) ]

pub linked_right : (ks ls : List (ℕ × ℕ)) (i j : ℕ) → So (linked ls i j) → So (linked (ks ++ ls) i j)
unfolding linked
linked_right [] ls i j t = t
linked_right (k ∷ ks) ls i j t = or_right (eqb k.0 i & eqb k.1 j) (linked_right ks ls i j t)

pub linked_append : (ks ls : List (ℕ × ℕ)) (i j : ℕ) → So (linked (ks ++ ls) i j) → So (linked ks i j) ⊎ So (linked ls i j)
unfolding linked
linked_append [] ls i j t = inr t
linked_append (k ∷ ks) ls i j t = elim (or_out t) [ inl a ↦ inl (or_left (linked ks i j) a) | inr b ↦ go (linked_append ks ls i j b) ]
  where
    go : So (linked ks i j) ⊎ So (linked ls i j) → So (linked (k ∷ ks) i j) ⊎ So (linked ls i j)
    go (inl a) = inl (or_right (eqb k.0 i & eqb k.1 j) a)
    go (inr b) = inr b

pub linked_one : (i j : ℕ) → So (linked ((i, j) ∷ []) i j)
unfolding linked
linked_one i j = or_left (linked [] i j) (and_in (eq-eqb i i refl) (eq-eqb j j refl))

pub linked_one_out : (k l i j : ℕ) → So (linked ((k, l) ∷ []) i j) → (k ≡ i) × (l ≡ j)
unfolding linked
linked_one_out k l i j t =
    elim (or_out t) [ inl a ↦ (let p = and_out a in (eqb-true k i p.0, eqb-true l j p.1)) | inr b ↦ absurd (false≢true b) ]

-- ---- links by their number

-- a pair is its two numbers
pub pair_is_lem : {x : ℕ × ℕ} {i j : ℕ} → x.0 ≡ i → x.1 ≡ j → x ≡ (i, j)
pair_is_lem p q = ap₂ {C = ℕ × ℕ} (λ x y. (x, y)) p q

pub linked_at : (ls : List (ℕ × ℕ)) (k : ℕ) → k < length ls → So (linked ls (get_or ls k (0, 0)).0 (get_or ls k (0, 0)).1)
unfolding linked
linked_at [] k h = absurd (not-suc-le-zero h)
linked_at (l ∷ ls) zero h = or_left (linked ls l.0 l.1) (and_in (eq-eqb l.0 l.0 refl) (eq-eqb l.1 l.1 refl))
linked_at (l ∷ ls) (suc k) h = or_right _ (linked_at ls k (le_of_suc-le-suc h))

pub linked_find : (ls : List (ℕ × ℕ)) (i j : ℕ) → So (linked ls i j) → (k : ℕ) × (k < length ls) × (get_or ls k (0, 0) ≡ (i, j))
unfolding linked
linked_find [] i j t = absurd (false≢true t)
linked_find (l ∷ ls) i j t = elim (or_out t) [
  | inl a ↦ (let p = and_out a in (zero, omega arith, pair_is_lem (eqb-true l.0 i p.0) (eqb-true l.1 j p.1)))
  | inr b ↦ (let r = linked_find ls i j b in (suc r.0, omega arith, r.2))
]

-- R holds of each link and every later one
abbrev pub AllPairs : (ℕ × ℕ → ℕ × ℕ → Type 0) → List (ℕ × ℕ) → Type 0
AllPairs R ls = (i j : ℕ) → i < j → j < length ls → R (get_or ls i (0, 0)) (get_or ls j (0, 0))

-- each link stands in the list a single time
abbrev pub Single : List (ℕ × ℕ) → Type 0
Single ls = AllPairs (λ x y. x ≡ y → ⊥) ls

-- each link stands before the next
abbrev pub Ascending : List (ℕ × ℕ) → Type 0
Ascending ls = AllPairs Before ls

before_apart : {x y : ℕ × ℕ} → Before x y → x ≡ y → ⊥
before_apart {x} {y} (inl l) e = let q = ap (λ (z : ℕ × ℕ). z.0) e in omega arith
before_apart {x} {y} (inr l) e = let q = ap (λ (z : ℕ × ℕ). z.1) e in omega (arith, l.1)

-- one link more
pub pairs_snoc : (R : ℕ × ℕ → ℕ × ℕ → Type 0) (ls : List (ℕ × ℕ)) (x : ℕ × ℕ) → AllPairs R ls
    → ((i : ℕ) → i < length ls → R (get_or ls i (0, 0)) x) → AllPairs R (ls ++ (x ∷ []))
pairs_snoc R ls x up last i j h l =
    let old : (k : ℕ) → k < length ls → get_or (ls ++ (x ∷ [])) k (0, 0) ≡ get_or ls k (0, 0) = λ k b. get_or-append ls (x ∷ []) (0, 0) k b in
    elim (dec_lt j (length ls)) [
      | yes b ↦ rw (old i (omega arith), old j b) (up i j h b)
      | no b ↦ (
          let q : j ≡ length ls = omega (arith, length-append ls (x ∷ [])) in
          let e : get_or (ls ++ (x ∷ [])) j (0, 0) ≡ x = rw q (get_or-append_seam ls x [] (0, 0)) in
          rw (old i (omega arith), e) (last i (omega arith)))
    ]

-- numbers ascend as their digits do
digits_before : (n i k : ℕ) → 0 < n → i < k → Before (i / n, i % n) (k / n, k % n)
digits_before n i k h l = elim (dec_lt (i / n) (k / n)) [
  | yes m ↦ inl m
  | no m ↦ (
      let c : i / n < suc (k / n) = (div-lt_iff_lt-mul h).1 (rw (suc-mul (k / n) n) (omega (arith, div-add-mod' k n, mod-lt k h))) in
      let e : i / n ≡ k / n = omega arith in
      inr (e, omega (arith, div-add-mod' i n, div-add-mod' k n, ap (λ (q : ℕ). q * n) e)))
]

-- ---- the list of a relation's pairs

module _ (n : ℕ) (r : ℕ → ℕ → Bool) where
  pairs_below_in : (k i : ℕ) → i < k → So (r (i / n) (i % n)) → So (linked (pairs_below n r k) (i / n) (i % n))
  unfolding pairs_below
  pairs_below_in zero i h t = absurd (not-suc-le-zero h)
  pairs_below_in (suc k) i h t =
      below_suc (λ (i : ℕ). So (r (i / n) (i % n)) → So (linked (pairs_below n r (suc k)) (i / n) (i % n)))
      (λ i l u. linked_left (pairs_below n r k) _ (i / n) (i % n) (pairs_below_in k i l u))
      (λ u. linked_right (pairs_below n r k) _ (k / n) (k % n) (rw u (linked_one (k / n) (k % n))))
      i h t

  pub pairs_of_in : (i j : ℕ) → i < n → j < n → So (r i j) → So (linked (pairs_of n r) i j)
  unfolding pairs_of
  pairs_of_in i j hi hj t =
      subst₂ (λ (x y : ℕ). So (r x y) → So (linked (pairs_below n r (n * n)) x y)) (digits_div i hj) (digits_mod i hj)
      (pairs_below_in (n * n) (i * n + j) (digits_lt hi hj)) t

  pub record Pair (k i j : ℕ) : Type 0 where
    pub number : ℕ
    pub inside : number < k
    pub row : number / n ≡ i
    pub column : number % n ≡ j
    pub holds : So (r i j)

  pairs_below_out : (k i j : ℕ) → So (linked (pairs_below n r k) i j) → Pair k i j
  unfolding pairs_below linked
  pairs_below_out zero i j t = absurd (false≢true t)
  pairs_below_out (suc k) i j t = go (linked_append (pairs_below n r k) _ i j t) (pairs_below_out k i j)
    where
      last : (b : Bool) → r (k / n) (k % n) ≡ b → So (linked (cond b ((k / n, k % n) ∷ []) []) i j) → Pair (suc k) i j
      last true e u =
          let p = linked_one_out (k / n) (k % n) i j u in
          record { number = k; inside = omega arith; row = p.0; column = p.1; holds = subst₂ (λ (x y : ℕ). So (r x y)) p.0 p.1 e }
      last false e u = absurd (false≢true u)

      go : So (linked (pairs_below n r k) i j) ⊎ So (linked (cond (r (k / n) (k % n)) ((k / n, k % n) ∷ []) []) i j)
          → (So (linked (pairs_below n r k) i j) → Pair k i j) → Pair (suc k) i j
      go (inl a) ih = let p = ih a in record { number = p.number; inside = omega (arith, p.inside); row = p.row; column = p.column; holds = p.holds }
      go (inr b) ih = last (r (k / n) (k % n)) refl b

  pub pairs_of_out : (i j : ℕ) → So (linked (pairs_of n r) i j) → (i < n) × (j < n) × So (r i j)
  unfolding pairs_of
  pairs_of_out i j t =
      let p = pairs_below_out (n * n) i j t in
      (rw p.row at (row_lt n n p.number p.inside), rw p.column at (col_lt n n p.number p.inside), p.holds)

  -- the pairs ascend: the next one is after all earlier ones
  pairs_below_ascend : 0 < n → (k : ℕ) → Ascending (pairs_below n r k)
  unfolding pairs_below
  pairs_below_ascend some zero = λ i j h l. absurd (not-suc-le-zero l)
  pairs_below_ascend some (suc k) = go (r (k / n) (k % n)) (pairs_below_ascend some k)
    where
      go : (b : Bool) → Ascending (pairs_below n r k) → Ascending (pairs_below n r k ++ cond b ((k / n, k % n) ∷ []) [])
      go true up = pairs_snoc Before (pairs_below n r k) (k / n, k % n) up (λ i h.
          let p = pairs_below_out k _ _ (linked_at (pairs_below n r k) i h) in
          subst₂ (λ (x y : ℕ). Before (x, y) (k / n, k % n)) p.row p.column (digits_before n p.number k some p.inside))
      go false up = rw (append-nil (pairs_below n r k)) up

  pub pairs_of_ascend : Ascending (pairs_of n r)
  unfolding pairs_of
  pairs_of_ascend i j h l =
      let p = pairs_of_out _ _ (linked_at (pairs_below n r (n * n)) j l) in
      pairs_below_ascend (omega (arith, p.0)) (n * n) i j h l

  -- so each stands there a single time
  pub pairs_of_single : Single (pairs_of n r)
  pairs_of_single i j h l e = before_apart (pairs_of_ascend i j h l) e

  -- and there are as many as the relation holds
  pub length_pairs_below : (k : ℕ) → length (pairs_below n r k) ≡ count k (λ i. r (i / n) (i % n))
  unfolding pairs_below count bit
  length_pairs_below zero = refl
  length_pairs_below (suc k) = go (r (k / n) (k % n)) (length_pairs_below k)
    where
      go : (b : Bool) {c : ℕ} → length (pairs_below n r k) ≡ c → length (pairs_below n r k ++ cond b ((k / n, k % n) ∷ []) []) ≡ c + bit b
      go true e = omega (arith, length-append (pairs_below n r k) ((k / n, k % n) ∷ []))
      go false e = omega (arith, length-append (pairs_below n r k) [])

-- it goes by the values of the relation
pairs_below_ext : (n : ℕ) (r s : ℕ → ℕ → Bool) (k : ℕ) → ((i : ℕ) → i < k → r (i / n) (i % n) ≡ s (i / n) (i % n)) → pairs_below n r k ≡ pairs_below n s k
unfolding pairs_below
pairs_below_ext n r s zero h = refl
pairs_below_ext n r s (suc k) h = rw (pairs_below_ext n r s k (λ i l. h i (omega arith)), h k (omega arith))

pub pairs_of_ext : (n : ℕ) (r s : ℕ → ℕ → Bool) → ((i j : ℕ) → i < n → j < n → r i j ≡ s i j) → pairs_of n r ≡ pairs_of n s
unfolding pairs_of
pairs_of_ext n r s h = pairs_below_ext n r s (n * n) (λ i l. h (i / n) (i % n) (row_lt n n i l) (col_lt n n i l))
