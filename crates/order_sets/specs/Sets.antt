-- Sets of numbers below B, and rows of such sets.
use Rattle.std.specs.Prelude.{◌≡◌, Bool, not, ℕ, ◌+◌, ◌<◌, eqb}
use Rattle.theory.specs.Logic.Bools.{◌&◌, ◌or◌}
use Rattle.theory.specs.Logic.Range.{any_below}
use Rattle.theory.specs.Order.Passes.{Rel}

-- the set is what passes
abbrev pub Is : ℕ → (ℕ → Bool) → (ℕ → Bool) → Type 0
Is B r p = (x : ℕ) → x < B → r x ≡ p x

-- x is now in the set too, if b
abbrev pub With : ℕ → (ℕ → Bool) → (ℕ → Bool) → ℕ → Bool → Type 0
With B old new x b = (y : ℕ) → y < B → new y ≡ ((eqb y x & b) or old y)

-- row v is now r, and every other row is as before
pub record PutIn (B : ℕ) (old new : Rel) (v : ℕ) (r : ℕ → Bool) : Type 0 where
  pub here : Is B r (new v)
  pub other : (u x : ℕ) → (u ≡ v → ⊥) → x < B → new u x ≡ old u x

-- x is now in row v too, if b
abbrev pub AddedIn : ℕ → Rel → Rel → ℕ → ℕ → Bool → Type 0
AddedIn B old new v x b = (u y : ℕ) → y < B → new u y ≡ ((eqb u v & (eqb y x & b)) or old u y)

-- x is in one of the rows base + a, for a in `which`
unfoldable pub united_in : ℕ → Rel → ℕ → (ℕ → Bool) → ℕ → Bool
united_in B rows base which x = any_below B (λ a. which a & rows (base + a) x)

-- nothing is in row v and in x
unfoldable pub apart_in : ℕ → Rel → ℕ → (ℕ → Bool) → Bool
apart_in B rows v x = not (any_below B (λ y. rows v y & x y))

-- of all rows, those of a set
abbrev pub struck : (ℕ → Bool) → Rel → Rel
struck which rows v x = which v & rows v x
