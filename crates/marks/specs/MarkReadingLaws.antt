-- Laws of marks that are read as the bits of a word.
use Rattle.std.specs.Prelude.{◌≡◌, false, List, ℕ, ◌+◌, ◌-◌, ◌*◌, ◌/◌, ◌%◌, ◌^◌, ◌≤◌, ◌<◌, length, get_or}
use Rattle.std.proofs.Common.{sym, ap, ap₂, ◌∙◌, mod-lt, arith, pow_pos, shl_exact}
use Rattle.std.proofs.Math.Decide.{dec_lt}
use Rattle.std.specs.Int.Bits.{bit_and, bit_or}
use Rattle.std.proofs.lemmas.Nat.{and_mask}
use Rattle.std.proofs.Math.ListN.{get_or-eq_default}
use Rattle.theory.specs.Logic.Bools.{◌or◌}
use Rattle.theory.proofs.Logic.BoolsLaws.{or_first, or_false}
use Rattle.words.specs.Word.{word_bits, digit}
use Rattle.words.specs.WordLaws.{digit_zero, digit_or, digit_shift, digit_high, digit_mod, digit_up, digit_up_low}
use Rattle.marks.specs.Marks.{is_mark}
use Rattle.marks.specs.MarksLaws.{zero_mark}
use Rattle.marks.specs.MarkWritingLaws.{power_is}
use Rattle.marks.specs.MarkReading.{read_bits, BitsRead}

-- ---- byte by byte

pub read_none : (b : List ℕ) (at : ℕ) → BitsRead b at 0 0
read_none b at = (λ k h. absurd (omega arith), λ k h. digit_zero k)

-- a byte's digit is a mark
byte_mark : (b : List ℕ) (j k : ℕ) → k < 8 → digit (get_or b j 0) k ≡ is_mark b (j * 8 + k)
unfolding is_mark
byte_mark b j k h =
    let q : (j * 8 + k) / 8 ≡ j = omega arith in
    let r : (j * 8 + k) % 8 ≡ k = omega arith in
    rw (q, r)

-- a byte after k others
module _ (b : List ℕ) (first k word : ℕ) (fits : get_or b (first + k) 0 < 2 ^ 8) (read : BitsRead b (first * 8) (8 * k) word) where
  abbrev byte : ℕ
  byte = get_or b (first + k) 0

  -- a digit of the byte in its place
  byte_at : (i : ℕ) → 8 * k ≤ i → digit (byte * 2 ^ (8 * k)) i ≡ digit byte (i - 8 * k)
  byte_at i h =
      let e : i ≡ 8 * k + (i - 8 * k) = omega arith in
      ap (digit (byte * 2 ^ (8 * k))) e ∙ digit_up byte (8 * k) (i - 8 * k)

  byte_in : (i : ℕ) → 8 * k ≤ i → i < 8 * (k + 1) → digit byte (i - 8 * k) ≡ is_mark b (first * 8 + i)
  byte_in i h l =
      let e : (first + k) * 8 + (i - 8 * k) ≡ first * 8 + i = omega arith in
      byte_mark b (first + k) (i - 8 * k) (omega arith) ∙ ap (is_mark b) e

  joined_low : (i : ℕ) → i < 8 * k → digit (bit_or word (byte * 2 ^ (8 * k))) i ≡ is_mark b (first * 8 + i)
  joined_low i h =
      digit_or word _ i ∙ ap₂ (λ x y. x or y) (read.0 i h) (digit_up_low byte (8 * k) i h) ∙ or_false _

  joined_high : (i : ℕ) → 8 * k ≤ i → digit (bit_or word (byte * 2 ^ (8 * k))) i ≡ digit byte (i - 8 * k)
  joined_high i h = digit_or word _ i ∙ or_first _ (read.1 i h) ∙ byte_at i h

  joined : BitsRead b (first * 8) (8 * (k + 1)) (bit_or word (byte * 2 ^ (8 * k)))
  joined = (
    λ i h. elim (dec_lt i (8 * k)) [ yes l ↦ joined_low i l | no l ↦ joined_high i (omega (arith, l)) ∙ byte_in i (omega (arith, l)) h ],
    λ i h. joined_high i (omega (arith, h)) ∙ digit_high byte (i - 8 * k) 8 fits (omega (arith, h)),
  )

  pub read_byte : k < 8 → BitsRead b (first * 8) (8 * (k + 1)) (bit_or word (byte * 2 ^ (8 * k) % 2 ^ 64))
  read_byte h = rw (shl_exact {a = byte} 8 (8 * k) 64 fits (omega (arith, h))) joined

-- ---- a word, and a part of it

-- beyond the buffer nothing is marked
beyond : (b : List ℕ) (i : ℕ) → length b * 8 ≤ i → is_mark b i ≡ false
beyond b i h = zero_mark b i (get_or-eq_default b 0 (omega arith))

pub read_all : (b : List ℕ) (first word : ℕ) → first ≤ length b → BitsRead b (first * 8) (8 * (length b - first)) word
    → (k : ℕ) → digit word k ≡ is_mark b (first * 8 + k)
read_all b first word l r k = elim (dec_lt k (8 * (length b - first))) [
  | yes h ↦ r.0 k h
  | no h ↦ r.1 k (omega (arith, h)) ∙ sym (beyond b (first * 8 + k) (omega (arith, l, h)))
]

pub read_part : (b : List ℕ) (at count word : ℕ) → count ≤ read_bits → ((k : ℕ) → k < word_bits → digit word k ≡ is_mark b (at / 8 * 8 + k))
    → BitsRead b at count (bit_and (word / 2 ^ (at % 8)) (1 * 2 ^ count % 2 ^ 64 - 1))
read_part b at count word h e = rw (power_is count (omega (arith, h)), and_mask (word / 2 ^ (at % 8)) count) (
  λ k l.
      let s : at / 8 * 8 + (at % 8 + k) ≡ at + k = omega arith in
      digit_mod (word / 2 ^ (at % 8)) count k l ∙ digit_shift word (at % 8) k ∙ e (at % 8 + k) (omega (arith, h, l)) ∙ ap (is_mark b) s,
  λ k l. digit_high (word / 2 ^ (at % 8) % 2 ^ count) k count (mod-lt _ (pow_pos count)) l,
)

-- ---- a part behind a part

module _ (b : List ℕ) (at i j low high : ℕ) (few : i + j ≤ word_bits) (first : BitsRead b at i low) (second : BitsRead b (at + i) j high) where
  -- a digit of the second part in its place
  moved_in : (k : ℕ) → i ≤ k → k < word_bits → digit (high * 2 ^ i % 2 ^ 64) k ≡ digit high (k - i)
  moved_in k h l =
      let e : k ≡ i + (k - i) = omega arith in
      digit_mod (high * 2 ^ i) 64 k l ∙ ap (digit (high * 2 ^ i)) e ∙ digit_up high i (k - i)

  moved_low : (k : ℕ) → k < i → digit (high * 2 ^ i % 2 ^ 64) k ≡ false
  moved_low k h = digit_mod (high * 2 ^ i) 64 k (omega (arith, few)) ∙ digit_up_low high i k h

  moved_high : (k : ℕ) → i + j ≤ k → digit (high * 2 ^ i % 2 ^ 64) k ≡ false
  moved_high k h = elim (dec_lt k word_bits) [
    | yes l ↦ moved_in k (omega arith) l ∙ second.1 (k - i) (omega arith)
    | no l ↦ digit_high (high * 2 ^ i % 2 ^ 64) k 64 (mod-lt _ (pow_pos 64)) (omega (arith, l))
  ]

  pub read_join : BitsRead b at (i + j) (bit_or low (high * 2 ^ i % 2 ^ 64))
  read_join = (
    λ k h. elim (dec_lt k i) [
      | yes l ↦ digit_or low _ k ∙ ap₂ (λ x y. x or y) (first.0 k l) (moved_low k l) ∙ or_false _
      | no l ↦ (
          let e : at + i + (k - i) ≡ at + k = omega arith in
          digit_or low _ k ∙ or_first _ (first.1 k (omega arith)) ∙ moved_in k (omega arith) (omega (arith, few)) ∙ second.0 (k - i) (omega arith) ∙ ap (is_mark b) e)
    ],
    λ k h. digit_or low _ k ∙ or_first _ (first.1 k (omega arith)) ∙ moved_high k h,
  )
