-- Laws of sums.
use Rattle.std.specs.Prelude.{◌≡◌, refl, Bool, true, eqb, ltb}
use Rattle.std.proofs.Math.Path.{sym}
use Rattle.std.proofs.Common.{ap, ◌∙◌, subst, lt_irrefl, suc-mul, zero-mul, add-one, arith}
use Prim.Native.Nat.{ℕ, zero, suc, ◌+◌, ◌*◌, ◌≤◌, ◌<◌}
use Rattle.std.proofs.Math.Decide.{dec_lt}
use borrow.Author.Tests.{eq-eqb, ne_eqb, lt-ltb, le-ltb}
use Rattle.theory.specs.Logic.Bools.{bit}
use Rattle.theory.specs.Logic.Range.{count, sum}
use Rattle.theory.proofs.Logic.CountLaws.{count_ext, count_append, count_both, count_none, count_all}

pub sum_none : (f : ℕ → ℕ) → 0 ≡ sum 0 f
unfolding sum
sum_none f = refl

pub sum_next : (f : ℕ → ℕ) (v : ℕ) → sum (v + 1) f ≡ sum v f + f v
unfolding sum
sum_next f v = rw (add-one v)

pub sum_mono : (f : ℕ → ℕ) (u v : ℕ) → u ≤ v → sum u f ≤ sum v f
unfolding sum
sum_mono f u zero h = let e : u ≡ 0 = omega arith in rw e (omega arith)
sum_mono f u (suc v) h = elim (dec_lt v u) [
  | yes l ↦ rw (equal u v h l) (omega arith)
  | no m ↦ omega (arith, sum_mono f u v (omega arith))
]
  where
    equal : (u v : ℕ) → u ≤ suc v → v < u → u ≡ suc v
    equal u v h l = omega arith

pub sum_cong : (f g : ℕ → ℕ) → ((v : ℕ) → f v ≡ g v) → (n : ℕ) → sum n f ≡ sum n g
unfolding sum
sum_cong f g e zero = refl
sum_cong f g e (suc n) = omega (arith, sum_cong f g e n, e n)

-- it goes by the values below n
pub sum_ext : (n : ℕ) (f g : ℕ → ℕ) → ((v : ℕ) → v < n → f v ≡ g v) → sum n f ≡ sum n g
unfolding sum
sum_ext zero f g e = refl
sum_ext (suc n) f g e = omega (arith, sum_ext n f g (λ v h. e v (omega arith)), e n (omega arith))

pub sum_le : (n b : ℕ) (f : ℕ → ℕ) → ((v : ℕ) → f v ≤ b) → sum n f ≤ n * b
unfolding sum
sum_le zero b f h = omega (arith, zero-mul b)
sum_le (suc n) b f h = omega (arith, sum_le n b f h, h n, suc-mul n b)

-- where nothing is added from a on
pub sum_skip : (f : ℕ → ℕ) (a b : ℕ) → a ≤ b → ((v : ℕ) → a ≤ v → v < b → f v ≡ 0) → sum b f ≡ sum a f
unfolding sum
sum_skip f a zero h e = let s : a ≡ 0 = omega arith in rw s
sum_skip f a (suc b) h e = elim (dec_lt b a) [
  | yes l ↦ (let s : a ≡ suc b = omega arith in rw s)
  | no m ↦ omega (arith, sum_skip f a b (omega arith) (λ v k l. e v k (omega arith)), e b (omega arith) (omega arith))
]

-- a count of pairs, row by row
pub count_rows : (n m : ℕ) (p : ℕ → Bool) → count (n * m) p ≡ sum n (λ v. count m (λ w. p (v * m + w)))
unfolding count sum
count_rows zero m p = ap (λ (k : ℕ). count k p) (zero-mul m)
count_rows (suc n) m p = let e : suc n * m ≡ n * m + m = omega (arith, suc-mul n m) in
    ap (λ (k : ℕ). count k p) e ∙ count_append (n * m) m p ∙ ap (λ (k : ℕ). k + count m (λ w. p (n * m + w))) (count_rows n m p)

-- ---- numbers counted by their value

bit_ltb : (x v : ℕ) → bit (ltb x v) + bit (eqb x v) ≡ bit (ltb x (suc v))
unfolding bit
bit_ltb x v = elim (dec_lt x v) [
  | yes l ↦ rw (lt-ltb x (suc v) (omega arith), lt-ltb x v l, ne_eqb x v (λ e. lt_irrefl v (subst (λ (k : ℕ). k < v) e l)))
  | no m ↦ elim (dec_lt v x) [
    | yes l ↦ rw (le-ltb x (suc v) l, le-ltb x v (omega arith), ne_eqb x v (λ e. lt_irrefl x (subst (λ (k : ℕ). k < x) (sym e) l)))
    | no k ↦ rw (lt-ltb x (suc v) (omega arith), le-ltb x v (omega arith), eq-eqb x v (omega arith))
  ]
]

module _ (s : ℕ → ℕ) where
  -- those up to v are those below v and those that are v
  pub count_ltb : (m v : ℕ) → count m (λ j. ltb (s j) v) + count m (λ j. eqb (s j) v) ≡ count m (λ j. ltb (s j) (suc v))
  count_ltb m v = count_both m _ _ _ (λ j h. bit_ltb (s j) v)

  -- those that are 0, .., v - 1 are those below v
  pub sum_counts : (m v : ℕ) → sum v (λ u. count m (λ j. eqb (s j) u)) ≡ count m (λ j. ltb (s j) v)
  unfolding sum
  sum_counts m zero = sym (count_none m _ (λ j h. le-ltb (s j) 0 (omega arith)))
  sum_counts m (suc v) = omega (arith, sum_counts m v, count_ltb m v)

  -- all of them, where all are below v
  pub sum_counts_all : (m v : ℕ) → ((j : ℕ) → j < m → s j < v) → sum v (λ u. count m (λ j. eqb (s j) u)) ≡ m
  sum_counts_all m v below = sum_counts m v ∙ count_ext m _ (λ j. true) (λ j h. lt-ltb (s j) v (below j h)) ∙ count_all m
