-- Tests as Bools, and their connectives. A test b holds where `So b`, that is `b ≡ true`.
-- The connectives are the library's `&&` and `||` and an implication, as definitions that unfold only where asked: a statement keeps its parts.
use Rattle.std.specs.Prelude.{Bool, true, false, ℕ}

infixl 35 ◌&◌
unfoldable pub ◌&◌ : Bool → Bool → Bool
true & b = b
false & b = false

infixl 30 ◌or◌
unfoldable pub ◌or◌ : Bool → Bool → Bool
true or b = true
false or b = b

unfoldable pub imp : Bool → Bool → Bool
imp true b = b
imp false b = true

-- a mark as a number
unfoldable pub bit : Bool → ℕ
bit true = 1
bit false = 0
