-- Laws of counting: a larger test counts more, an injection counts no less, the c-th that passes, the pigeonhole.
use Rattle.std.specs.Prelude.{◌≡◌, refl, Bool, true, false, not, cond, ℕ, zero, suc, ◌+◌, ◌*◌, ◌/◌, ◌%◌, ◌≤◌, ◌<◌, eqb, ltb}
use Rattle.std.proofs.Common.{sym, ap, ◌∙◌, subst, inl, inr, zero-le, not-suc-le-zero, le_refl, lt_irrefl, mod-lt, div-lt_iff_lt-mul, div-add-mod', mul-zero, add-zero, add-suc, add-one, arith, eqb-true, eq-eqb, ne_eqb, ltb-true, ltb-false, lt-ltb, le-ltb}
use Rattle.std.proofs.Math.Bool.{So}
use Rattle.std.proofs.Math.Decide.{dec_lt}
use Rattle.std.proofs.Math.Arith.{digits_div, digits_mod}
use Rattle.theory.specs.Logic.Bools.{◌&◌, ◌or◌, bit}
use Rattle.theory.proofs.Logic.BoolsLaws.{decide, clash, So_ext, and_in, and_out, and_fails, or_right, or_false, bit_in, bit_either, bit_mono, bit_less}
use Rattle.theory.specs.Logic.Range.{any_below, count, nth}
use Rattle.theory.proofs.Logic.RangeLaws.{below_suc, any_in, any_out}

-- ---- counts

-- one number more
pub count_step : (n : ℕ) (p : ℕ → Bool) → count (n + 1) p ≡ count n p + bit (p n)
unfolding count
count_step n p = rw (add-one n)

-- it goes by the values of the test
pub count_ext : (n : ℕ) (p q : ℕ → Bool) → ((i : ℕ) → i < n → p i ≡ q i) → count n p ≡ count n q
unfolding count
count_ext zero p q f = refl
count_ext (suc n) p q f = omega (arith, count_ext n p q (λ i h. f i (omega arith)), ap bit (f n (omega arith)))

-- below n, and from n on
pub count_append : (n m : ℕ) (p : ℕ → Bool) → count (n + m) p ≡ count n p + count m (λ i. p (n + i))
unfolding count
count_append n zero p = ap (λ (k : ℕ). count k p) (add-zero n) ∙ sym (add-zero (count n p))
count_append n (suc m) p = ap (λ (k : ℕ). count k p) (add-suc n m) ∙ omega (arith, count_append n m p)

-- what two tests count apart, a third counts together
pub count_both : (n : ℕ) (p q r : ℕ → Bool) → ((i : ℕ) → i < n → bit (p i) + bit (q i) ≡ bit (r i)) → count n p + count n q ≡ count n r
unfolding count
count_both zero p q r e = refl
count_both (suc n) p q r e = omega (arith, count_both n p q r (λ i h. e i (omega arith)), e n (omega arith))

pub count_none : (n : ℕ) (p : ℕ → Bool) → ((i : ℕ) → i < n → p i ≡ false) → count n p ≡ 0
unfolding count bit
count_none zero p f = refl
count_none (suc n) p f = rw (f n (omega arith)) (omega (arith, count_none n p (λ i h. f i (omega arith))))

pub count_all : (n : ℕ) → count n (λ i. true) ≡ n
unfolding count bit
count_all zero = refl
count_all (suc n) = omega (arith, count_all n)

pub count_mono : (n : ℕ) (p q : ℕ → Bool) → ((i : ℕ) → i < n → So (p i) → So (q i)) → count n p ≤ count n q
unfolding count
count_mono zero p q f = zero-le
count_mono (suc n) p q f =
    let a = count_mono n p q (λ i h. f i (omega arith)) in
    let b = bit_mono (p n) (q n) (f n (omega arith)) in
    omega arith

pub count_le : (n : ℕ) (p : ℕ → Bool) → count n p ≤ n
count_le n p = rw (count_all n) at (count_mono n p (λ i. true) (λ i h t. refl))

pub count_less : (n : ℕ) (p q : ℕ → Bool) → ((i : ℕ) → i < n → So (p i) → So (q i)) → (i : ℕ) → i < n → p i ≡ false → So (q i)
    → count n p < count n q
unfolding count
count_less zero p q f i h e t = absurd (not-suc-le-zero h)
count_less (suc n) p q f i h e t =
    below_suc (λ (j : ℕ). p j ≡ false → So (q j) → count n p + bit (p n) < count n q + bit (q n))
    (λ j l u v.
    let a = count_less n p q (λ k m. f k (omega arith)) j l u v in
    let b = bit_mono (p n) (q n) (f n (omega arith)) in
    omega arith)
    (λ u v.
    let a = count_mono n p q (λ k m. f k (omega arith)) in
    let b = bit_less (p n) (q n) u v in
    omega arith)
    i h e t

-- each i that passes p has a partner that passes q, and nobody is the partner of two: q passes at least as often
pub count_inject {ℓ} : (N M : ℕ) (p q : ℕ → Bool) (Partner : ℕ → ℕ → Type ℓ)
    → ((i : ℕ) → i < N → So (p i) → (j : ℕ) × (j < M) × So (q j) × Partner i j)
    → ((i i' j : ℕ) → i < N → i' < N → j < M → Partner i j → Partner i' j → i ≡ i')
    → count N p ≤ count M q
unfolding count bit
count_inject zero M p q Partner f u = zero-le
count_inject (suc N) M p q Partner f u = go (p N) refl (λ q f. count_inject N M p q Partner f (λ i i' j h h'. u i i' j (less i h) (less i' h')))
  where
    less : (i : ℕ) → i < N → i < suc N
    less i h = omega arith

    Into : (ℕ → Bool) → Type ℓ
    Into q = (i : ℕ) → i < N → So (p i) → (j : ℕ) × (j < M) × So (q j) × Partner i j

    go : (b : Bool) → p N ≡ b → ((q : ℕ → Bool) → Into q → count N p ≤ count M q) → count N p + bit b ≤ count M q
    go false e ih = omega (arith, ih q (λ i h. f i (less i h)))
    go true e ih =
        let r = f N (omega arith) e in
        let q' : ℕ → Bool = λ m. q m & not (eqb m r.0) in
        let a = ih q' (λ i h t.
        let s = f i (less i h) t in
        let ne : s.0 ≡ r.0 → ⊥ =
        λ d. lt_irrefl N (subst (λ (k : ℕ). k < N) (u i N s.0 (less i h) (omega arith) s.1 s.3 (subst (Partner N) (sym d) r.3)) h) in
        (s.0, s.1, and_in s.2 (ap not (ne_eqb s.0 r.0 ne)), s.3)) in
        let b = count_less M q' q (λ i h t. (and_out t).0) r.0 r.1 (and_fails (q r.0) _ (ap not (eq-eqb r.0 r.0 refl))) r.2 in
        omega arith

-- one number more that passes: it is counted unless it passed before
pub count_add : (n : ℕ) (p : ℕ → Bool) (x : ℕ) → x < n → count n (λ i. p i or eqb x i) ≡ count n p + bit (not (p x))
unfolding count
count_add zero p x h = absurd (not-suc-le-zero h)
count_add (suc n) p x h =
    below_suc (λ (x : ℕ). count n (λ i. p i or eqb x i) + bit (p n or eqb x n) ≡ count n p + bit (p n) + bit (not (p x)))
    (λ x l. rw (ne_eqb x n (below_apart l), or_false (p n)) (omega (arith, count_add n p x l)))
    (rw (eq-eqb n n refl)
    (omega (arith, bit_either (p n), bit_in (or_right (p n) refl), count_ext n (λ i. p i or eqb n i) p (λ i l. rw (ne_eqb n i (λ e. below_apart l (sym e))) (or_false (p i))))))
    x h
  where
    below_apart : {x n : ℕ} → x < n → x ≡ n → ⊥
    below_apart l e = omega arith

pub count_grows : (n m : ℕ) (p : ℕ → Bool) → n ≤ m → count n p ≤ count m p
count_grows n m p h = count_inject n m p p (λ i j. i ≡ j) (λ i l t. (i, omega arith, t, refl)) (λ i i' j l l' k e e'. e ∙ sym e')

-- ---- the c-th that passes, and the number of one that passes

pub record Nth (n : ℕ) (p : ℕ → Bool) (c x : ℕ) : Type 0 where
  pub inside : x < n
  pub passes : So (p x)
  pub number : count x p ≡ c

pub nth_at : (n : ℕ) (p : ℕ → Bool) (c : ℕ) → c < count n p → Nth n p c (nth n p c)
unfolding nth count bit
nth_at zero p c h = absurd (not-suc-le-zero h)
nth_at (suc n) p c h = go (ltb c (count n p)) refl (p n) refl h (nth_at n p c)
  where
    go : (b : Bool) → ltb c (count n p) ≡ b → (q : Bool) → p n ≡ q → c < count n p + bit q → (c < count n p → Nth n p c (nth n p c))
        → Nth (suc n) p c (cond b (nth n p c) n)
    go true e q f h ih = let r = ih (ltb-true c (count n p) e) in record { inside = omega (arith, r.inside); passes = r.passes; number = r.number }
    go false e true f h ih = record { inside = omega arith; passes = f; number = omega (arith, ltb-false c (count n p) e) }
    go false e false f h ih = absurd (not-suc-le-zero {n = 0} (omega (arith, ltb-false c (count n p) e)))

pub count_lt : (n : ℕ) (p : ℕ → Bool) (v : ℕ) → v < n → So (p v) → count v p < count n p
unfolding count bit
count_lt zero p v h t = absurd (not-suc-le-zero h)
count_lt (suc n) p v h t =
    below_suc (λ (v : ℕ). So (p v) → count v p < count n p + bit (p n)) (λ v l u. omega (arith, count_lt n p v l u)) (λ u. rw u (omega arith)) v h t

pub nth_count : (n : ℕ) (p : ℕ → Bool) (v : ℕ) → v < n → So (p v) → nth n p (count v p) ≡ v
unfolding nth
nth_count zero p v h t = absurd (not-suc-le-zero h)
nth_count (suc n) p v h t =
    below_suc (λ (v : ℕ). So (p v) → cond (ltb (count v p) (count n p)) (nth n p (count v p)) n ≡ v)
    (λ v l u. rw (lt-ltb (count v p) (count n p) (count_lt n p v l u)) (nth_count n p v l u))
    (λ u. rw (le-ltb (count n p) (count n p) (le_refl (count n p))))
    v h t

-- ---- among n + 1 numbers below n two are equal

pub record Twice (n : ℕ) (f : ℕ → ℕ) : Type 0 where
  pub first : ℕ
  pub second : ℕ
  pub order : first < second
  pub bound : second ≤ n
  pub equal : f first ≡ f second

-- some earlier number has the same value
unfoldable repeated : (ℕ → ℕ) → ℕ → Bool
repeated f j = any_below j (λ i. eqb (f i) (f j))

-- without a repetition f would inject n + 1 numbers into n
pub pigeonhole : (n : ℕ) (f : ℕ → ℕ) → ((k : ℕ) → k ≤ n → f k < n) → Twice n f
unfolding repeated
pigeonhole n f h = elim (decide (any_below (suc n) (repeated f))) [
  | inl t ↦ (
      let b = any_out t in
      let a = any_out b.2 in
      record { first = a.0; second = b.0; order = a.1; bound = omega arith; equal = eqb-true (f a.0) (f b.0) a.2 })
  | inr e ↦ absurd (too_many e)
]
  where
    apart : any_below (suc n) (repeated f) ≡ false → (i j : ℕ) → i < j → j < suc n → f i ≡ f j → ⊥
    apart e i j l b q = clash (any_in (suc n) (repeated f) j b (any_in j _ i l (eq-eqb (f i) (f j) q))) e

    one : any_below (suc n) (repeated f) ≡ false → (i j : ℕ) → i < suc n → j < suc n → f i ≡ f j → i ≡ j
    one e i j hi hj q = elim (dec_lt i j) [
      | yes l ↦ absurd (apart e i j l hj q)
      | no m ↦ elim (dec_lt j i) [ yes l ↦ absurd (apart e j i l hi (sym q)) | no m' ↦ omega arith ]
    ]

    too_many : any_below (suc n) (repeated f) ≡ false → ⊥
    too_many e =
        let c =
        count_inject (suc n) n (λ i. true) (λ i. true) (λ i j. f i ≡ j)
        (λ i l t. (f i, h i (omega arith), refl, refl))
        (λ i i' j l l' k q q'. one e i i' l l' (q ∙ sym q')) in
        omega (arith, c, count_all (suc n), count_all n)

-- ---- pairs: number v × n + w has row v and column w

positive : (n m i : ℕ) → i < n * m → zero < m
positive n zero i h = absurd (not-suc-le-zero (subst (λ (k : ℕ). i < k) (mul-zero n) h))
positive n (suc m) i h = omega arith

pub row_lt : (n m i : ℕ) → i < n * m → i / m < n
row_lt n m i h = (div-lt_iff_lt-mul (positive n m i h)).1 h

pub col_lt : (n m i : ℕ) → i < n * m → i % m < m
col_lt n m i h = mod-lt i (positive n m i h)

pub pair_ext : (n i j : ℕ) → i / n ≡ j / n → i % n ≡ j % n → i ≡ j
pair_ext n i j e f = sym (div-add-mod' i n) ∙ rw (e, f) (div-add-mod' j n)

-- a number is one row and one column
pub digits_one : {n s t v x : ℕ} → t < n → x < n → s * n + t ≡ v * n + x → (s ≡ v) × (t ≡ x)
digits_one {n} {s} {t} {v} {x} ht hx e = (
  sym (digits_div s ht) ∙ ap (λ (k : ℕ). k / n) e ∙ digits_div v hx,
  sym (digits_mod s ht) ∙ ap (λ (k : ℕ). k % n) e ∙ digits_mod v hx,
)

pub digits_same : (n s t v x : ℕ) → t < n → x < n → eqb (s * n + t) (v * n + x) ≡ eqb s v & eqb t x
digits_same n s t v x ht hx = So_ext
    (λ b. let e = digits_one ht hx (eqb-true (s * n + t) (v * n + x) b) in and_in (eq-eqb s v e.0) (eq-eqb t x e.1))
    (λ b. let c = and_out b in eq-eqb (s * n + t) (v * n + x) (cc (eqb-true s v c.0, eqb-true t x c.1)))
