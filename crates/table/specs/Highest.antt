-- The highest of some numbers.
use Rattle.std.specs.Prelude.{ℕ, zero, suc, max}

-- the highest of f 0, .., f (n - 1); 0 where there is none
unfoldable pub highest_of : ℕ → (ℕ → ℕ) → ℕ
highest_of zero f = 0
highest_of (suc n) f = max (highest_of n f) (f n)
