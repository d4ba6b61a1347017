-- Laws of the binary digits of a word: of bitwise operations, shifts and powers of 2, of the lowest digit that is set, and of their number.
use Rattle.std.specs.Prelude.{◌≡◌, refl, Bool, true, false, not, ℕ, zero, suc, ◌+◌, ◌-◌, ◌*◌, ◌/◌, ◌%◌, ◌^◌, ◌≤◌, ◌<◌, eqb}
use Rattle.std.proofs.Common.{sym, ap, ap₂, ◌∙◌, subst, mod-lt, one-mul, lt_of_lt_of_le, lt_of_le_of_lt, div-one, pow-suc, mul_assoc, arith, one-add, pow_pos, pow_mono, pow-add, shr-shr, shl_exact, eqb-true, eq-eqb, ne_eqb}
use Rattle.std.proofs.Math.Bool.{So}
use Rattle.std.proofs.Math.Nat.{mul-mod_left, zero-div, div-eq_of_lt, div_self}
use Rattle.std.proofs.Math.Decide.{dec_lt, ℕ_discrete}
use Rattle.std.proofs.lemmas.Nat.{and_mask, and_le_r, and_shr, or_shr, xor_shr, and_mod, or_mod, xor_mod, shl-shr, shr_le}
use Rattle.std.specs.Int.Bits.{bit_and, bit_or, bit_xor}
use Rattle.std.proofs.Math.Arith.{lt-one}
use Rattle.std.specs.Int.Count.{count_trailing_zeros, under, ones, ones_step}
use Rattle.std.proofs.Math.Pow.{pow-lt, field, mod-mod-pow}
use Rattle.std.proofs.lemmas.Bool.{eqb-false}
use Rattle.theory.specs.Logic.Bools.{◌&◌, ◌or◌, bit}
use Rattle.theory.proofs.Logic.BoolsLaws.{clash, So_ext, So_not, not_in, not_out, and_true, and_fails, or_flip}
use Rattle.theory.specs.Logic.Range.{any_below, count, first}
use Rattle.theory.proofs.Logic.RangeLaws.{any_in, any_out, first_is, first_le, first_none}
use Rattle.theory.proofs.Logic.CountLaws.{count_ext, count_append}
use Rattle.words.specs.Word.{word_bits, digit, lowest_bit, Lowest, Rest}

-- ---- bitwise operations

-- what holds of 0 and 1
two : (P : ℕ → Type 0) → P 0 → P 1 → (x : ℕ) → x < 2 → P x
two P a b zero h = a
two P a b (suc zero) h = b
two P a b (suc (suc x)) h = absurd (omega arith)

-- what holds of all pairs of them
four : (f g : ℕ → ℕ → Bool) → f 0 0 ≡ g 0 0 → f 0 1 ≡ g 0 1 → f 1 0 ≡ g 1 0 → f 1 1 ≡ g 1 1 → (x y : ℕ) → x < 2 → y < 2 → f x y ≡ g x y
four f g a b c d x y hx hy =
    two (λ x. f x y ≡ g x y) (two (λ y. f 0 y ≡ g 0 y) a b y hy) (two (λ y. f 1 y ≡ g 1 y) c d y hy) x hx

half : (x : ℕ) → x % 2 < 2
half x = mod-lt x (omega arith)

bit_or_lem : (x y : ℕ) → x < 2 → y < 2 → eqb (bit_or x y) 1 ≡ (eqb x 1 or eqb y 1)
unfolding ◌or◌
bit_or_lem = four (λ x y. eqb (bit_or x y) 1) (λ x y. eqb x 1 or eqb y 1) refl refl refl refl

bit_and_lem : (x y : ℕ) → x < 2 → y < 2 → eqb (bit_and x y) 1 ≡ eqb x 1 & eqb y 1
unfolding ◌&◌
bit_and_lem = four (λ x y. eqb (bit_and x y) 1) (λ x y. eqb x 1 & eqb y 1) refl refl refl refl

bit_less : (x y : ℕ) → x < 2 → y < 2 → eqb (bit_xor x (bit_and x y)) 1 ≡ eqb x 1 & not (eqb y 1)
unfolding ◌&◌
bit_less = four (λ x y. eqb (bit_xor x (bit_and x y)) 1) (λ x y. eqb x 1 & not (eqb y 1)) refl refl refl refl

pub digit_or : (a b k : ℕ) → digit (bit_or a b) k ≡ (digit a k or digit b k)
unfolding digit
digit_or a b k = rw (or_shr a b k, or_mod (a / 2 ^ k) (b / 2 ^ k) 1) (bit_or_lem (a / 2 ^ k % 2) (b / 2 ^ k % 2) (half _) (half _))

pub digit_and : (a b k : ℕ) → digit (bit_and a b) k ≡ digit a k & digit b k
unfolding digit
digit_and a b k = rw (and_shr a b k, and_mod (a / 2 ^ k) (b / 2 ^ k) 1) (bit_and_lem (a / 2 ^ k % 2) (b / 2 ^ k % 2) (half _) (half _))

-- a less b
pub digit_less : (a b k : ℕ) → digit (bit_xor a (bit_and a b)) k ≡ digit a k & not (digit b k)
unfolding digit
digit_less a b k =
    rw (xor_shr a (bit_and a b) k, and_shr a b k, xor_mod (a / 2 ^ k) (bit_and (a / 2 ^ k) (b / 2 ^ k)) 1, and_mod (a / 2 ^ k) (b / 2 ^ k) 1)
    (bit_less (a / 2 ^ k % 2) (b / 2 ^ k % 2) (half _) (half _))

-- ---- shifts and powers of 2

pub digit_zero : (k : ℕ) → digit 0 k ≡ false
unfolding digit
digit_zero k = rw (zero-div (2 ^ k))

pub digit_shift : (x j k : ℕ) → digit (x / 2 ^ j) k ≡ digit x (j + k)
unfolding digit
digit_shift x j k = rw (shr-shr x j k)

pub digit_high : (x k n : ℕ) → x < 2 ^ n → n ≤ k → digit x k ≡ false
unfolding digit
digit_high x k n h l = rw (div-eq_of_lt (lt_of_lt_of_le h (pow_mono l)))

-- a digit from s on, by the word shifted by s
digit_from : (x s i : ℕ) → s ≤ i → digit (x / 2 ^ s) (i - s) ≡ digit x i
digit_from x s i l = let e : s + (i - s) ≡ i = omega arith in digit_shift x s (i - s) ∙ ap (digit x) e

-- the lowest digit after a shift, as the code reads it
pub digit_read : (x k : ℕ) → eqb (bit_and (x / 2 ^ k) 1) 1 ≡ digit x k
unfolding digit
digit_read x k = rw (and_mask (x / 2 ^ k) 1)

digit_power : (j k : ℕ) → digit (1 * 2 ^ j) k ≡ eqb k j
unfolding digit
digit_power j k = rw (one-mul (2 ^ j)) (go (ℕ_discrete k j))
  where
    above : k < j → 2 ^ j / 2 ^ k % 2 ≡ 0
    above h =
        let e : j ≡ suc (j - suc k) + k = omega arith in
        let q : 2 ^ j / 2 ^ k ≡ 2 ^ suc (j - suc k) =
        ap (λ (i : ℕ). 2 ^ i / 2 ^ k) e ∙ rw (pow-add 2 (suc (j - suc k)) k) (shl-shr (2 ^ suc (j - suc k)) k) in
        rw (q, pow-suc 2 (j - suc k)) (mul-mod_left (2 ^ (j - suc k)) 2)

    below : ¬ (k ≡ j) → ¬ (k < j) → j < k
    below d m = elim (dec_lt j k) [ yes l ↦ l | no n ↦ absurd (d (omega arith)) ]

    go : Dec (k ≡ j) → eqb (2 ^ j / 2 ^ k % 2) 1 ≡ eqb k j
    go (yes e) = rw (e, div_self (pow_pos j), eq-eqb j j refl)
    go (no d) = rw (ne_eqb k j d) (elim (dec_lt k j) [ yes l ↦ rw (above l) | no m ↦ rw (div-eq_of_lt (pow-lt (below d m))) ])

-- the digits of a word shifted up by s
pub digit_up : (x s k : ℕ) → digit (x * 2 ^ s) (s + k) ≡ digit x k
digit_up x s k = sym (digit_shift (x * 2 ^ s) s k) ∙ ap (λ (y : ℕ). digit y k) (shl-shr x s)

pub digit_up_low : (x s k : ℕ) → k < s → digit (x * 2 ^ s) k ≡ false
unfolding digit
digit_up_low x s k h = let e : s ≡ suc (s - suc k) + k = omega arith in ap (λ (i : ℕ). digit (x * 2 ^ i) k) e ∙ even (s - suc k)
  where
    even : (j : ℕ) → digit (x * 2 ^ (suc j + k)) k ≡ false
    even j =
        let p : x * 2 ^ (suc j + k) ≡ x * 2 ^ suc j * 2 ^ k = rw (pow-add 2 (suc j) k) (sym (mul_assoc x (2 ^ suc j) (2 ^ k))) in
        let t : x * 2 ^ suc j ≡ x * 2 ^ j * 2 = rw (pow-suc 2 j) (sym (mul_assoc x (2 ^ j) 2)) in
        rw (p, shl-shr (x * 2 ^ suc j) k, t, mul-mod_left (x * 2 ^ j) 2)

-- its lowest c digits
pub digit_mod : (x c k : ℕ) → k < c → digit (x % 2 ^ c) k ≡ digit x k
unfolding digit
digit_mod x c k h = let e : c ≡ (c - suc k) + 1 + k = omega arith in ap (λ (i : ℕ). digit (x % 2 ^ i) k) e ∙ below (c - suc k)
  where
    below : (j : ℕ) → digit (x % 2 ^ (j + 1 + k)) k ≡ digit x k
    below j = rw (field x (j + 1) k, mod-mod-pow (x / 2 ^ k) j 1)

-- ---- a bit that is set

pub with_bit : (x k j : ℕ) → k < word_bits → digit (bit_or x (1 * 2 ^ k % 2 ^ 64)) j ≡ ((eqb j k & true) or digit x j)
with_bit x k j h =
    rw (shl_exact {a = 1} 1 k 64 (omega arith) (omega arith), digit_or x (1 * 2 ^ k) j, digit_power k j, and_true (eqb j k)) (or_flip (digit x j) (eqb j k))

pub with_none : (x k j : ℕ) → digit x j ≡ ((eqb j k & false) or digit x j)
unfolding ◌or◌
with_none x k j = rw (and_fails (eqb j k) false refl)

-- ---- the lowest digit that is set

record Trailing (n x t : ℕ) : Type 0 where
  pub inside : t < n
  pub set : So (digit x t)
  pub below : (j : ℕ) → j < t → digit x j ≡ false

pub digit_suc : (x k : ℕ) → digit (x / 2) k ≡ digit x (suc k)
digit_suc x k = digit_shift x 1 k ∙ ap (digit x) (one-add k)

pub digit_first : (x : ℕ) → digit x 0 ≡ eqb (x % 2) 1
unfolding digit
digit_first x = rw (div-one x)

trailing : (n x : ℕ) → x < 2 ^ n → (x ≡ 0 → ⊥) → Trailing n x (count_trailing_zeros n x)
unfolding count_trailing_zeros
trailing zero x h d = absurd (d (lt-one h))
trailing (suc n) x h d = go (x % 2) refl (λ l m. trailing n (x / 2) l m)
  where
    later : {t : ℕ} → x % 2 ≡ 0 → ((j : ℕ) → j < t → digit (x / 2) j ≡ false) → (j : ℕ) → j < suc t → digit x j ≡ false
    later e f zero l = digit_first x ∙ rw e
    later e f (suc j) l = sym (digit_suc x j) ∙ f j (omega arith)

    go : (b : ℕ) → x % 2 ≡ b → (x / 2 < 2 ^ n → (x / 2 ≡ 0 → ⊥) → Trailing n (x / 2) (count_trailing_zeros n (x / 2)))
        → Trailing (suc n) x (under b (count_trailing_zeros n (x / 2)))
    go zero e ih =
        let r = ih (omega (arith, pow-suc 2 n)) (λ z. d (omega arith)) in
        record { inside = omega (arith, r.inside); set = sym (digit_suc x _) ∙ r.set; below = later e r.below }
    go (suc b) e ih = record {
      inside = omega arith;
      set = digit_first x ∙ eq-eqb (x % 2) 1 (omega (arith, half x));
      below = λ j l. absurd (omega arith);
    }

-- a word other than 0 has a digit
pub word_some : (x : ℕ) → x < 2 ^ 64 → not (eqb x 0) ≡ any_below word_bits (digit x)
word_some x h =
    So_ext
    (λ t. let r = trailing 64 x h (eqb-false x 0 (not_out t)) in any_in 64 (digit x) (count_trailing_zeros 64 x) r.inside r.set)
    (λ t. let r = any_out t in not_in (ne_eqb x 0 (λ e. clash (subst (λ (i : ℕ). So (digit i r.0)) e r.2) (digit_zero r.0))))

pub some_none : any_below word_bits (digit 0) ≡ false
some_none = So_not (λ t. let r = any_out t in clash r.2 (digit_zero r.0))

-- the first digit from s on
module _ (x s : ℕ) where
  pub first_none_left : s ≤ word_bits → x / 2 ^ s ≡ 0 → 64 ≡ first (digit x) s word_bits
  first_none_left hs e =
      let n = first_none (digit x) s 64 (omega arith) (λ i l m. sym (digit_from x s i l) ∙ rw e (digit_zero (i - s))) in
      omega (arith, n, first_le (digit x) s 64 (omega arith))

  module _ (fits : x < 2 ^ 64) (hs : s < word_bits) (d : x / 2 ^ s ≡ 0 → ⊥) where
    low : Trailing 64 (x / 2 ^ s) (count_trailing_zeros 64 (x / 2 ^ s))
    low = trailing 64 (x / 2 ^ s) (lt_of_le_of_lt (shr_le x s) fits) d

    set_at : So (digit x (s + count_trailing_zeros 64 (x / 2 ^ s)))
    set_at = sym (digit_shift x s (count_trailing_zeros 64 (x / 2 ^ s))) ∙ low.set

    pub first_inside : s + count_trailing_zeros 64 (x / 2 ^ s) < word_bits
    first_inside = elim (dec_lt (s + count_trailing_zeros 64 (x / 2 ^ s)) 64) [
      | yes k ↦ k
      | no m ↦ clash set_at (digit_high x (s + count_trailing_zeros 64 (x / 2 ^ s)) 64 fits (omega arith))
    ]

    pub first_digit : s + count_trailing_zeros 64 (x / 2 ^ s) ≡ first (digit x) s word_bits
    first_digit =
        sym (first_is (digit x) s 64 (s + count_trailing_zeros 64 (x / 2 ^ s)) (omega arith) first_inside set_at
        (λ j a b. sym (digit_from x s j a) ∙ low.below (j - s) (omega arith)))

-- ---- a word without its lowest digit

pub lowest_is : (x : ℕ) → x < 2 ^ 64 → (x ≡ 0 → ⊥) → Lowest x (count_trailing_zeros 64 x)
unfolding lowest_bit
lowest_is x h d =
    let r = trailing 64 x h d in
    record {
      is = sym (first_is (digit x) 0 64 (count_trailing_zeros 64 x) (omega arith) r.inside r.set (λ j a b. r.below j b));
      inside = r.inside;
      set = r.set;
    }

and_same : (a : Bool) → a & a ≡ a & not false
unfolding ◌&◌
and_same true = refl
and_same false = refl

and_false : {a : Bool} (b c : Bool) → a ≡ false → a & b ≡ a & c
unfolding ◌&◌
and_false b c e = rw e

eqb_suc : (j t : ℕ) → eqb (suc j) (suc t) ≡ eqb j t
eqb_suc j t =
    So_ext (λ s. eq-eqb j t (let e = eqb-true (suc j) (suc t) s in omega arith)) (λ s. eq-eqb (suc j) (suc t) (let e = eqb-true j t s in omega arith))

rest_digit : (n x k : ℕ) → x < 2 ^ n → (x ≡ 0 → ⊥) → digit x k & digit (x - 1) k ≡ digit x k & not (eqb k (count_trailing_zeros n x))
unfolding count_trailing_zeros
rest_digit zero x k h d = absurd (d (lt-one h))
rest_digit (suc n) x k h d = go (x % 2) refl (λ j l m. rest_digit n (x / 2) j l m) k
  where
    above : (j : ℕ) (e : ℕ) → (x - 1) / 2 ≡ e → digit (x - 1) (suc j) ≡ digit e j
    above j e q = sym (digit_suc (x - 1) j) ∙ ap (λ (y : ℕ). digit y j) q

    go : (b : ℕ) → x % 2 ≡ b
        → ((j : ℕ) → x / 2 < 2 ^ n → (x / 2 ≡ 0 → ⊥) → digit (x / 2) j & digit (x / 2 - 1) j ≡ digit (x / 2) j & not (eqb j (count_trailing_zeros n (x / 2))))
        → (k : ℕ) → digit x k & digit (x - 1) k ≡ digit x k & not (eqb k (under b (count_trailing_zeros n (x / 2))))
    go zero e ih zero = and_false _ _ (digit_first x ∙ rw e)
    go zero e ih (suc j) =
        ap₂ ◌&◌ (sym (digit_suc x j)) (above j (x / 2 - 1) (omega arith))
        ∙ ih j (omega (arith, pow-suc 2 n)) (λ z. d (omega arith))
        ∙ ap₂ (λ a b. a & not b) (digit_suc x j) (sym (eqb_suc j (count_trailing_zeros n (x / 2))))
    go (suc b) e ih zero =
        let q : (x - 1) % 2 ≡ 0 = omega (arith, half x) in
        ap (λ a. digit x 0 & a) (digit_first (x - 1) ∙ ap (λ (y : ℕ). eqb y 1) q)
    go (suc b) e ih (suc j) =
        ap (λ a. digit x (suc j) & a) (above j (x / 2) (omega (arith, half x)) ∙ digit_suc x j) ∙ and_same (digit x (suc j))
        ∙ ap (λ a. digit x (suc j) & not a) (sym (ne_eqb (suc j) 0 (λ z. omega arith)))

pub rest_is : (x : ℕ) → x < 2 ^ 64 → (x ≡ 0 → ⊥) → Rest x (bit_and x (x - 1))
rest_is x h d = record {
  digits = λ k. digit_and x (x - 1) k ∙ rest_digit 64 x k h d ∙ ap (λ (t : ℕ). digit x k & not (eqb k t)) (lowest_is x h d).is;
  less = let l = and_le_r x (x - 1) in omega (arith, l, d);
}

-- ---- how many digits are set

pub digit_bit : (x : ℕ) → x % 2 ≡ bit (digit x 0)
unfolding bit
digit_bit x = rw (digit_first x) (two (λ y. y ≡ bit (eqb y 1)) refl refl (x % 2) (half x))

ones_count : (n x : ℕ) → x < 2 ^ n → ones x ≡ count n (digit x)
unfolding count ones
ones_count zero x h = let e : x ≡ 0 = lt-one h in rw e
ones_count (suc n) x h =
    let rest : ones (x / 2) ≡ count n (λ i. digit x (1 + i)) =
    ones_count n (x / 2) (omega (arith, pow-suc 2 n)) ∙ count_ext n _ _ (λ i l. digit_shift x 1 i) in
    omega (arith, ones_step x, digit_bit x, rest, count_append 1 n (digit x), ap (λ (k : ℕ). count k (digit x)) (one-add n))

pub word_size : (x : ℕ) → x < 2 ^ 64 → ones x ≡ count word_bits (digit x)
word_size = ones_count 64
