-- Bounded "each", "some", "the first", "how many" and "the c-th"; the sum and the list of a function's values, and of a relation's pairs.
use Rattle.std.specs.Prelude.{◌≡◌, ◌⊎◌, Bool, true, false, cond, List, [], ◌∷◌, ◌++◌, ℕ, zero, suc, ◌+◌, ◌-◌, ◌*◌, ◌/◌, ◌%◌, ◌<◌, ltb, leb}
use Rattle.theory.specs.Logic.Bools.{◌&◌, ◌or◌, bit}

-- each number below n passes
unfoldable pub all_below : ℕ → (ℕ → Bool) → Bool
all_below zero p = true
all_below (suc n) p = all_below n p & p n

-- some number below n passes
unfoldable pub any_below : ℕ → (ℕ → Bool) → Bool
any_below zero p = false
any_below (suc n) p = any_below n p or p n

-- some number from a on, below e, passes
unfoldable pub any_from : ℕ → ℕ → (ℕ → Bool) → Bool
any_from a e p = any_below e (λ i. leb a i & p i)

-- the first of k, k + 1, .. that passes, with f numbers to look at. The `let` stops the search at the first.
unfoldable pub first_of : (ℕ → Bool) → ℕ → ℕ → ℕ
first_of p zero k = k
first_of p (suc f) k = let r = first_of p f (suc k) in cond (p k) k r

-- the first number from a on, below e, that passes; e where there is none
unfoldable pub first : (ℕ → Bool) → ℕ → ℕ → ℕ
first p a e = first_of p (e - a) a

-- how many numbers below n pass
unfoldable pub count : ℕ → (ℕ → Bool) → ℕ
count zero p = zero
count (suc n) p = count n p + bit (p n)

-- the sum f 0 + .. + f (n - 1)
unfoldable pub sum : ℕ → (ℕ → ℕ) → ℕ
sum zero f = zero
sum (suc n) f = sum n f + f n

-- the c-th number below n that passes, counted from 0
unfoldable pub nth : ℕ → (ℕ → Bool) → ℕ → ℕ
nth zero p c = zero
nth (suc n) p c = let r = nth n p c in cond (ltb c (count n p)) r n

-- the list f 0, .., f (n - 1)
unfoldable pub tabulate : {A : Type 0} → ℕ → (ℕ → A) → List A
tabulate zero f = []
tabulate (suc n) f = f zero ∷ tabulate n (λ i. f (suc i))

-- one pair before another: by the first number, then by the second
abbrev pub Before : ℕ × ℕ → ℕ × ℕ → Type 0
Before x y = (x.0 < y.0) ⊎ ((x.0 ≡ y.0) × (x.1 < y.1))

-- the pairs of a relation among the first k of (0, 0), (0, 1), .., (n - 1, n - 1)
unfoldable pub pairs_below : ℕ → (ℕ → ℕ → Bool) → ℕ → List (ℕ × ℕ)
pairs_below n r zero = []
pairs_below n r (suc k) = pairs_below n r k ++ cond (r (k / n) (k % n)) ((k / n, k % n) ∷ []) []

-- all its pairs of numbers below n, ascending
unfoldable pub pairs_of : ℕ → (ℕ → ℕ → Bool) → List (ℕ × ℕ)
pairs_of n r = pairs_below n r (n * n)
