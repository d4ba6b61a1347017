-- Laws of a number by its binary digits: the digits of such a number, and the number with given digits.
use Rattle.std.specs.Prelude.{◌≡◌, Bool, ℕ, zero, suc, ◌+◌, ◌*◌, ◌/◌, ◌%◌, ◌^◌, ◌<◌, eqb}
use Rattle.std.proofs.Common.{sym, ap, ◌∙◌, pow-suc, arith}
use Rattle.std.proofs.Math.Arith.{lt-one}
use Rattle.theory.specs.Logic.Bools.{bit}
use Rattle.theory.proofs.Logic.BoolsLaws.{bit_le, bit_is_one}
use Rattle.words.specs.Word.{digit, number}
use Rattle.words.specs.WordLaws.{digit_first, digit_suc, digit_bit}

-- ---- the digits of a number that is given by its digits

pub number_lt : (k : ℕ) (f : ℕ → Bool) → number k f < 2 ^ k
unfolding number
number_lt zero f = omega arith
number_lt (suc k) f = omega (arith, bit_le (f 0), number_lt k (λ i. f (suc i)), pow-suc 2 k)

pub digit_number : (k : ℕ) (f : ℕ → Bool) (j : ℕ) → j < k → digit (number k f) j ≡ f j
unfolding number
digit_number zero f j h = absurd (omega arith)
digit_number (suc k) f zero h =
    let r : (bit (f 0) + 2 * number k (λ i. f (suc i))) % 2 ≡ bit (f 0) = omega (arith, bit_le (f 0)) in
    digit_first _ ∙ ap (λ (y : ℕ). eqb y 1) r ∙ bit_is_one (f 0)
digit_number (suc k) f (suc j) h =
    let q : (bit (f 0) + 2 * number k (λ i. f (suc i))) / 2 ≡ number k (λ i. f (suc i)) = omega (arith, bit_le (f 0)) in
    sym (digit_suc _ j) ∙ ap (λ (y : ℕ). digit y j) q ∙ digit_number k (λ i. f (suc i)) j (omega arith)

-- ---- the number with given digits

pub number_is : (k x : ℕ) (f : ℕ → Bool) → x < 2 ^ k → ((j : ℕ) → j < k → digit x j ≡ f j) → x ≡ number k f
unfolding number
number_is zero x f h e = lt-one h
number_is (suc k) x f h e =
    let low : x % 2 ≡ bit (f 0) = digit_bit x ∙ ap bit (e 0 (omega arith)) in
    let rest : x / 2 ≡ number k (λ i. f (suc i)) =
    number_is k (x / 2) (λ i. f (suc i)) (omega (arith, pow-suc 2 k)) (λ j l. digit_suc x j ∙ e (suc j) (omega arith)) in
    omega (arith, low, rest)

-- it goes by the digits
pub number_ext : (k : ℕ) (f g : ℕ → Bool) → ((j : ℕ) → j < k → f j ≡ g j) → number k f ≡ number k g
number_ext k f g e = number_is k (number k f) g (number_lt k f) (λ j h. digit_number k f j h ∙ e j h)
