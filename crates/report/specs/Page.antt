-- A page of output.
use Rattle.std.specs.Prelude.{ℕ, ◌≤◌, ◌<◌}

-- output goes on at a place of a page of so many bytes, which isn't empty
abbrev pub OnPage : ℕ → ℕ → Type 0
OnPage size at = (at ≤ size) × (0 < size)
