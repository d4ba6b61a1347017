-- The kinds of refusals: document 01, "A further call tells a number's kind".
use Rattle.std.specs.Prelude.{Bool, cond, ℕ, leb}
use Rattle.theory.specs.Logic.Bools.{◌&◌}

-- k is one of a to b
unfoldable pub within : ℕ → ℕ → ℕ → Bool
within a b k = leb a k & leb k b

-- the game 1, the relation 2, the plan 3, the memory 4, later additions 5, any other 0
unfoldable pub kind_of : ℕ → ℕ
kind_of k =
    cond (within 1 8 k) 1
    (cond (within 9 10 k) 2
    (cond (within 11 16 k) 3
    (cond (within 21 24 k) 4
    (cond (within 31 99 k) 5 0))))
