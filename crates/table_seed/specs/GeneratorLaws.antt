-- Laws of the generator.
use Rattle.std.specs.Prelude.{◌≡◌, ℕ, ◌+◌, ◌*◌, ◌%◌, ◌<◌}
use Rattle.std.proofs.Math.Nat.{mod-add-mod}
use Rattle.std.proofs.Common.{mul-le-mul, add-one, arith}
use Rattle.table_seed.specs.Generator.{step, draw_of, state_after}

-- the product of two 32-bit numbers fits 64 bits
pub product_lt : (a b : ℕ) → a < 4294967296 → b < 4294967296 → a * b < 18446744073709551616
product_lt a b ha hb = omega (arith, mul-le-mul {n₁ = a} {m₁ = b} {n₂ = 4294967295} {m₂ = 4294967295} (omega arith) (omega arith))

-- the product may be reduced before the sum
pub step_wraps : (s : ℕ) → (s * 1664525 % 4294967296 + 1013904223) % 4294967296 ≡ step s
unfolding step
step_wraps s = mod-add-mod (s * 1664525) 4294967296 1013904223

-- a draw has 16 bits
pub draw_lt : (s : ℕ) → draw_of s < 65536
unfolding step draw_of
draw_lt s = omega arith

-- one step more
pub state_more : (s k : ℕ) → state_after s (k + 1) ≡ step (state_after s k)
unfolding state_after
state_more s k = rw (add-one k)
