-- Laws of the highest of some numbers: none is above it, and one has it. Where it is below a limit, a search for a word that reaches the
-- limit finds none.
use Rattle.std.specs.Prelude.{◌≡◌, List, ℕ, zero, suc, ◌+◌, ◌-◌, ◌≤◌, ◌<◌, max, get_or}
use Rattle.std.proofs.Math.Decide.{dec_lt}
use Rattle.std.proofs.Common.{add-one, arith}
use Rattle.std.proofs.lemmas.Bool.{lt-leb}
use Rattle.theory.specs.Logic.Range.{first}
use Rattle.theory.proofs.Logic.RangeLaws.{first_le, first_none}
use Rattle.table.specs.Highest.{highest_of}
use Rattle.table.specs.Flags.{at_least}

pub highest_of_ge : (n : ℕ) (f : ℕ → ℕ) (v : ℕ) → v < n → f v ≤ highest_of n f
unfolding highest_of
highest_of_ge zero f v h = omega arith
highest_of_ge (suc n) f v h = elim (dec_lt v n) [
  | yes l ↦ omega (arith, highest_of_ge n f v l)
  | no k ↦ (let e : v ≡ n = omega arith in rw e (omega arith))
]

-- some number has it
pub highest_of_at : (n : ℕ) (f : ℕ → ℕ) → 0 < n → (v : ℕ) × (v < n) × (f v ≡ highest_of n f)
unfolding highest_of
highest_of_at zero f h = absurd (omega arith)
highest_of_at (suc n) f h = elim (dec_lt (highest_of n f) (f n)) [
  | yes l ↦ (n, omega arith, omega arith)
  | no k ↦ elim (dec_lt 0 n) [
    | yes p ↦ (let (v, a, e) = highest_of_at n f p in (v, omega arith, omega arith))
    | no z ↦ (let e : n ≡ 0 = omega arith in (n, omega arith, rw e (omega arith)))
  ]
]

pub highest_of_more : (n : ℕ) (f : ℕ → ℕ) → highest_of (n + 1) f ≡ max (highest_of n f) (f n)
unfolding highest_of
highest_of_more n f = rw (add-one n)

pub highest_none : (words : List ℕ) (limit from end : ℕ) → from ≤ end → highest_of (end - from) (λ i. get_or words (from + i) 0) < limit
    → end ≡ first (at_least words limit) from end
highest_none words limit from end h l =
    omega (arith, first_le (at_least words limit) from end h, first_none (at_least words limit) from end h (λ k a b. lt-leb limit (get_or words k 0) (below k a b)))
  where
    below : (k : ℕ) → from ≤ k → k < end → get_or words k 0 < limit
    below k a b =
        let e : from + (k - from) ≡ k = omega arith in
        let g = highest_of_ge (end - from) (λ i. get_or words (from + i) 0) (k - from) (omega arith) in
        omega (arith, l, rw e at g)
