-- The generator: change request 3, games by the seed.
use Rattle.std.specs.Prelude.{ℕ, zero, suc, ◌+◌, ◌*◌, ◌/◌, ◌%◌}

-- "A step replaces s by s × 1,664,525 + 1,013,904,223, reduced modulo 4,294,967,296."
unfoldable pub step : ℕ → ℕ
step s = (s * 1664525 + 1013904223) % 4294967296

-- "Its draw is the new s divided by 65,536, rounded down."
unfoldable pub draw_of : ℕ → ℕ
draw_of s = step s / 65536

-- the state after k steps from s
unfoldable pub state_after : ℕ → ℕ → ℕ
state_after s zero = s
state_after s (suc k) = step (state_after s k)

-- draw number k from s, counted from 0
abbrev pub draw_at : ℕ → ℕ → ℕ
draw_at s k = draw_of (state_after s k)
