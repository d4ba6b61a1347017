-- Laws of a list of words as a set: what is in it by its words, and a word that is stored.
use Rattle.std.specs.Prelude.{◌≡◌, refl, Bool, true, false, List, ℕ, ◌+◌, ◌*◌, ◌/◌, ◌%◌, ◌<◌, eqb, length, get_or, set, replicate}
use Rattle.std.proofs.Common.{ap, ◌∙◌, arith, get_or-set_same, get_or-set_other, eqb-true, eq-eqb, ne_eqb}
use Rattle.std.proofs.Math.Decide.{ℕ_discrete}
use Rattle.std.proofs.Math.Arith.{digits_div, digits_mod}
use Rattle.theory.specs.Logic.Bools.{◌&◌, ◌or◌}
use Rattle.theory.proofs.Logic.BoolsLaws.{So_ext, eqb_flip, and_in, and_out, and_true, or_flip}
use Rattle.theory.proofs.Logic.ListLaws.{zeros}
use Rattle.words.specs.Word.{word_bits, digit}
use Rattle.words.specs.WordLaws.{digit_zero}
use Rattle.words.specs.Words.{has}

-- digit k of word j
pub has_at : (a : List ℕ) (j k : ℕ) → k < word_bits → has a (j * 64 + k) ≡ digit (get_or a j 0) k
unfolding has
has_at a j k h = rw (digits_div j h, digits_mod j h)

-- nothing is in zeroed words
pub has_zero : (n x : ℕ) → has (replicate n 0) x ≡ false
unfolding has
has_zero n x = rw (zeros n (x / 64)) (digit_zero (x % 64))

-- ---- a word that is stored, with bit k set if b

pub word_set : (r : List ℕ) (i k z : ℕ) (b : Bool) → i < length r → ((j : ℕ) → j < word_bits → digit z j ≡ ((eqb j k & b) or digit (get_or r i 0) j))
    → (h j : ℕ) → j < word_bits → digit (get_or (set r i z) h 0) j ≡ ((eqb h i & (eqb j k & b)) or digit (get_or r h 0) j)
unfolding ◌&◌ ◌or◌
word_set r i k z b l d h j m = elim (ℕ_discrete h i) [
  | yes e ↦ rw (e, get_or-set_same r i z 0 l, eq-eqb i i refl) (d j m)
  | no e ↦ rw (get_or-set_other r i h z 0 e, ne_eqb h i e)
]

-- a number by its word and its digit
pub same_bit : (x y : ℕ) → eqb (y / 64) (x / 64) & eqb (y % 64) (x % 64) ≡ eqb y x
same_bit x y =
    So_ext
    (λ t. let c = and_out t in eq-eqb y x (omega (arith, eqb-true (y / 64) (x / 64) c.0, eqb-true (y % 64) (x % 64) c.1)))
    (λ t. let e = eqb-true y x t in and_in (eq-eqb _ _ (ap (λ (i : ℕ). i / 64) e)) (eq-eqb _ _ (ap (λ (i : ℕ). i % 64) e)))

-- x is in the set now, and else what was
pub has_set : (r : List ℕ) (x z : ℕ) → x / 64 < length r
    → ((j : ℕ) → j < word_bits → digit z j ≡ ((eqb j (x % 64) & true) or digit (get_or r (x / 64) 0) j))
    → (y : ℕ) → has (set r (x / 64) z) y ≡ (has r y or eqb x y)
unfolding has
has_set r x z l d y =
    word_set r (x / 64) (x % 64) z true l d (y / 64) (y % 64) (omega arith)
    ∙ or_flip _ (has r y)
    ∙ ap (λ a. has r y or a) (ap (λ a. eqb (y / 64) (x / 64) & a) (and_true (eqb (y % 64) (x % 64))) ∙ same_bit x y ∙ eqb_flip y x)
