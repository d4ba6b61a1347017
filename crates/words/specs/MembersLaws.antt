-- Laws of the first number in a list of words from a place on, by the word of that place.
use Rattle.std.specs.Prelude.{◌≡◌, refl, false, List, ℕ, ◌+◌, ◌*◌, ◌/◌, ◌%◌, ◌≤◌, ◌<◌, get_or}
use Rattle.std.proofs.Common.{sym, ◌∙◌}
use Rattle.std.proofs.Math.Decide.{dec_lt}
use native.Mathlib.Omega.{arith}
use Rattle.std.proofs.Math.Arith.{digits_mod}
use Rattle.theory.specs.Logic.Range.{first}
use Rattle.theory.proofs.Logic.RangeLaws.{first_is, first_ge, first_le, first_none, first_passes, first_before}
use Rattle.words.specs.Word.{digit}
use Rattle.words.specs.Words.{has}

-- no number from a on below b is in the words
abbrev pub NoneIn : List ℕ → ℕ → ℕ → Type 0
NoneIn r a b = (i : ℕ) → a ≤ i → i < b → has r i ≡ false

-- nothing is found below the end
pub first_past : (r : List ℕ) (a b e : ℕ) → a ≤ e → e ≤ b → NoneIn r a b → e ≡ first (has r) a e
first_past r a b e l m f = omega (arith, first_le (has r) a e l, first_none (has r) a e l (λ i x y. f i x (omega arith)))

module _ (r : List ℕ) (at : ℕ) where
  abbrev word : ℕ
  word = get_or r (at / 64) 0

  -- the first digit of the word from the place on
  abbrev found : ℕ
  found = first (digit word) (at % 64) 64

  has_in : (i : ℕ) → at / 64 * 64 ≤ i → i < (at / 64 + 1) * 64 → has r i ≡ digit word (i % 64)
  unfolding has
  has_in i a b = let e : i / 64 ≡ at / 64 = omega arith in rw e

  none_here : NoneIn r at (at / 64 * 64 + found)
  none_here i x y =
      let m = first_le (digit word) (at % 64) 64 (omega arith) in
      has_in i (omega arith) (omega (arith, y, m)) ∙ first_before (digit word) (at % 64) 64 (i % 64) (omega arith) (omega (arith, y, m))

  -- none lies before the digit found, or in the rest of the word where there is none
  pub none_more : (a k : ℕ) → k ≡ found → NoneIn r a at → NoneIn r a (at / 64 * 64 + k)
  none_more a k e f i x y = elim (dec_lt i at) [ yes l ↦ f i x l | no l ↦ none_here i (omega arith) (omega (arith, e, y)) ]

  -- the digit found is the first number
  pub first_here : (a e : ℕ) → a ≤ at → NoneIn r a at → found < 64 → at / 64 * 64 + found < e → at / 64 * 64 + found ≡ first (has r) a e
  first_here a e l f h b =
      let g = first_ge (digit word) (at % 64) 64 in
      sym (first_is (has r) a e (at / 64 * 64 + found) (omega (arith, g)) b
      (has_in (at / 64 * 64 + found) (omega arith) (omega (arith, h))
      ∙ rw (digits_mod (at / 64) h) (first_passes (digit word) (at % 64) 64 (omega arith) h))
      (none_more a found refl f))
