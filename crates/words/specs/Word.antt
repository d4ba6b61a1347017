-- Words of 64 bits, by their binary digits.
use Rattle.std.specs.Prelude.{◌≡◌, Bool, not, ℕ, zero, suc, ◌+◌, ◌*◌, ◌/◌, ◌%◌, ◌^◌, ◌<◌, eqb}
use Rattle.std.proofs.Math.Bool.{So}
use Rattle.theory.specs.Logic.Bools.{◌&◌, bit}
use Rattle.theory.specs.Logic.Range.{first}

-- bits of a word
abbrev pub word_bits : ℕ
word_bits = 64

-- binary digit k of x is set
unfoldable pub digit : ℕ → ℕ → Bool
digit x k = eqb (x / 2 ^ k % 2) 1

-- the number with the binary digits f 0, .., f (k - 1), the lowest first
unfoldable pub number : ℕ → (ℕ → Bool) → ℕ
number zero f = 0
number (suc k) f = bit (f 0) + 2 * number k (λ i. f (suc i))

-- the lowest digit that is set
unfoldable pub lowest_bit : ℕ → ℕ
lowest_bit x = first (digit x) 0 word_bits

-- k is that digit
pub record Lowest (x k : ℕ) : Type 0 where
  pub is : k ≡ lowest_bit x
  pub inside : k < word_bits
  pub set : So (digit x k)

-- r is x without it
pub record Rest (x r : ℕ) : Type 0 where
  pub digits : (k : ℕ) → digit r k ≡ digit x k & not (eqb k (lowest_bit x))
  pub less : r < x
