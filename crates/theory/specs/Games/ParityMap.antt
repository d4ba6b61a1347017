-- Maps of priorities under which the same player wins. Change request 6: the highest priority decides, turned into the lowest.
use Rattle.std.specs.Prelude.{◌≡◌, ℕ, ◌%◌}

-- On the numbers that Fit, f takes op to op' and keeps parity.
pub record ParityMap (Fit : ℕ → Type 0) (op op' : ℕ → ℕ → ℕ) (f : ℕ → ℕ) : Type 0 where
  pub within : (x y : ℕ) → Fit x → Fit y → Fit (op x y)
  pub joins : (x y : ℕ) → Fit x → Fit y → f (op x y) ≡ op' (f x) (f y)
  pub parity : (x : ℕ) → Fit x → f x % 2 ≡ x % 2
