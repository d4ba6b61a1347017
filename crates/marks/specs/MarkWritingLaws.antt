-- Laws of marks that are written from rows of bits: byte by byte, word by word, row by row.
use Rattle.std.specs.Prelude.{◌≡◌, Bool, false, List, ℕ, ◌+◌, ◌-◌, ◌*◌, ◌/◌, ◌%◌, ◌^◌, ◌≤◌, ◌<◌, length, get_or, set}
use Rattle.std.proofs.Math.Path.{refl, sym, ap}
use Rattle.std.proofs.Common.{◌∙◌, add-zero, suc-mul, mul-le-mul_right, div-add-mod', mod-lt, lt_of_lt_of_le, one-mul, mul-one, add-one, arith, eq-eqb, ne_eqb, length-set, pow_pos, pow_mono, shl_lt, shl_exact, shr-shr, ext_get_or}
use Rattle.std.proofs.Math.Decide.{dec_lt, ℕ_discrete}
use Rattle.std.proofs.Math.Arith.{digits_div, digits_mod}
use Rattle.std.specs.Int.Bits.{bit_and, or_zero_l}
use Rattle.std.proofs.lemmas.Nat.{or_lt, and_mask}
use Rattle.std.proofs.Math.ListN.{get_or-eq_default}
use Rattle.theory.specs.Logic.Bools.{◌or◌}
use Rattle.theory.proofs.Logic.BoolsLaws.{or_first, or_false}
use Rattle.theory.specs.Logic.Range.{tabulate}
use Rattle.theory.proofs.Logic.ListLaws.{length_tabulate, get_d_tabulate, tabulate_by, after_set}
use Rattle.theory.proofs.Logic.CountLaws.{row_lt, col_lt}
use Rattle.theory.specs.Order.Passes.{Rel, Marks, marked}
use Rattle.table.specs.Answers.{written}
use Rattle.table.specs.AnswersLaws.{length_written, get_d_written, get_d_written_beyond}
use Rattle.words.specs.Word.{digit}
use Rattle.words.specs.WordLaws.{digit_zero, digit_or, digit_shift, digit_high, digit_mod, digit_up, digit_up_low}
use Rattle.words.specs.NumberLaws.{number_lt, number_ext, number_is}
use Rattle.order_rows.specs.Bits.{row_words, cell}
use Rattle.order_rows.specs.MatrixLaws.{cell_at}
use Rattle.marks.specs.Marks.{bytes_for, marks_length, byte_of, bytes}
use Rattle.marks.specs.MarksLaws.{length_bytes, get_d_bytes, digit_byte_of}
use Rattle.marks.specs.MarkWriting.{begun_byte, next_byte, BitsWritten, row_mark, RowWritten, RowsWritten, Copied}

-- ---- a buffer that holds the marks f 0, .., f (at - 1)

module _ (f : ℕ → Bool) where
  pub held_none : (base : List ℕ) → base ≡ written (bytes (tabulate 0 f)) base
  unfolding written bytes tabulate
  held_none base = refl

  length_held : (at : ℕ) → length (bytes (tabulate at f)) ≡ bytes_for at
  length_held at = length_bytes (tabulate at f) ∙ ap bytes_for (length_tabulate at f)

  -- a mark, and what is no mark yet
  mark_in : (at i : ℕ) → i < at → marked (tabulate at f) i ≡ f i
  mark_in at i h = get_d_tabulate at f false i h

  mark_out : (at i : ℕ) → at ≤ i → marked (tabulate at f) i ≡ false
  mark_out at i h = get_or-eq_default (tabulate at f) false (rw (length_tabulate at f) h)

  module _ (base : List ℕ) (at : ℕ) where
    held_at : (j : ℕ) → j * 8 < at → get_or (written (bytes (tabulate at f)) base) j 0 ≡ byte_of (tabulate at f) j
    held_at j h =
        get_d_written (bytes (tabulate at f)) base j 0 (omega (arith, length_held at, h))
        ∙ get_d_bytes (tabulate at f) j (omega (arith, length_tabulate at f, h))

    held_beyond : (j : ℕ) → at ≤ j * 8 → get_or (written (bytes (tabulate at f)) base) j 0 ≡ get_or base j 0
    held_beyond j h = get_d_written_beyond (bytes (tabulate at f)) base j 0 (omega (arith, length_held at, h))

    held_length : bytes_for at ≤ length base → length (written (bytes (tabulate at f)) base) ≡ length base
    held_length h = length_written (bytes (tabulate at f)) base (omega (arith, length_held at, h))

    held_by : (b : List ℕ) → bytes_for at ≤ length base → length b ≡ length base
        → ((j : ℕ) → j * 8 < at → get_or b j 0 ≡ byte_of (tabulate at f) j) → ((j : ℕ) → at ≤ j * 8 → get_or b j 0 ≡ get_or base j 0)
        → b ≡ written (bytes (tabulate at f)) base
    held_by b h l marks beyond = ext_get_or 0 b _ (l ∙ sym (held_length h)) (λ j m. elim (dec_lt (j * 8) at) [
      | yes k ↦ marks j k ∙ sym (held_at j k)
      | no k ↦ beyond j (omega (arith, k)) ∙ sym (held_beyond j (omega (arith, k)))
    ])

  -- a byte of which all marks are written stays
  byte_stays : (at to j : ℕ) → j * 8 + 8 ≤ at → at ≤ to → byte_of (tabulate at f) j ≡ byte_of (tabulate to f) j
  unfolding byte_of
  byte_stays at to j h l =
      number_ext 8 _ _ (λ k m. mark_in at (j * 8 + k) (omega (arith, h, m)) ∙ sym (mark_in to (j * 8 + k) (omega (arith, h, l, m))))

  -- a store of the byte with more marks
  held_more : (base : List ℕ) (at to q : ℕ) → q * 8 ≤ at → at < to → to ≤ q * 8 + 8 → bytes_for to ≤ length base
      → set (written (bytes (tabulate at f)) base) q (byte_of (tabulate to f) q) ≡ written (bytes (tabulate to f)) base
  held_more base at to q a b c h =
      let old = written (bytes (tabulate at f)) base in
      let l = held_length base at (omega (arith, b, h)) in
      let inside : q < length old = omega (arith, l, a, b, h) in
      held_by base to (set old q (byte_of (tabulate to f) q)) h (length-set old q _ ∙ l)
      (after_set (λ j x. j * 8 < to → x ≡ byte_of (tabulate to f) j) old q _ inside (λ m. refl)
      (λ j d m. held_at base at j (omega (arith, a, c, d, m)) ∙ byte_stays at to j (omega (arith, a, c, d, m)) (omega (arith, b))))
      (after_set (λ j x. to ≤ j * 8 → x ≡ get_or base j 0) old q _ inside (λ m. absurd (omega (arith, a, b, m)))
      (λ j d m. held_beyond base at j (omega (arith, b, m))))

-- ---- byte by byte

-- the byte of mark `at` holds the marks before it, and nothing else
begun_digit : (f : ℕ → Bool) (base : List ℕ) (at k : ℕ) → k < 8
    → digit (begun_byte (written (bytes (tabulate at f)) base) at) k ≡ marked (tabulate at f) (at / 8 * 8 + k)
unfolding begun_byte
begun_digit f base at k h = elim (ℕ_discrete (at % 8) 0) [
  | yes e ↦ rw (eq-eqb (at % 8) 0 e) (digit_zero k ∙ sym (mark_out f at (at / 8 * 8 + k) (omega (arith, e))))
  | no d ↦
      rw (ne_eqb (at % 8) 0 d)
      (ap (λ (x : ℕ). digit x k) (held_at f base at (at / 8) (omega (arith, d))) ∙ digit_byte_of (tabulate at f) (at / 8) k h)
]

begun_lt : (f : ℕ → Bool) (base : List ℕ) (at : ℕ) → begun_byte (written (bytes (tabulate at f)) base) at < 2 ^ 8
unfolding begun_byte byte_of
begun_lt f base at = elim (ℕ_discrete (at % 8) 0) [
  | yes e ↦ rw (eq-eqb (at % 8) 0 e) (omega arith)
  | no d ↦ rw (ne_eqb (at % 8) 0 d, held_at f base at (at / 8) (omega (arith, d))) (number_lt 8 _)
]

-- a power of 2 in a word
pub power_is : (count : ℕ) → count < 64 → 1 * 2 ^ count % 2 ^ 64 ≡ 2 ^ count
power_is count h = shl_exact {a = 1} 1 count 64 (omega arith) (omega (arith, h)) ∙ one-mul (2 ^ count)

module _ (word at count : ℕ) (some : 0 < count) (fits : at % 8 + count ≤ 8) where
  -- the bits of the word, moved to their places
  pub moved_lt : word % 2 ^ count * 2 ^ (at % 8) < 2 ^ 8
  moved_lt =
      let e : count + at % 8 ≤ 8 = omega (arith, fits) in
      lt_of_lt_of_le (shl_lt count (at % 8) (mod-lt word (pow_pos count))) (pow_mono e)

  pub moved_is : bit_and word (1 * 2 ^ count % 2 ^ 64 - 1) * 2 ^ (at % 8) % 2 ^ 64 ≡ word % 2 ^ count * 2 ^ (at % 8)
  moved_is =
      rw (power_is count (omega (arith, fits)), and_mask word count)
      (shl_exact count (at % 8) 64 (mod-lt word (pow_pos count)) (omega (arith, fits)))

  moved_in : (k : ℕ) → k < count → digit (word % 2 ^ count * 2 ^ (at % 8)) (at % 8 + k) ≡ digit word k
  moved_in k h = digit_up (word % 2 ^ count) (at % 8) k ∙ digit_mod word count k h

  moved_out : (k : ℕ) → count ≤ k → digit (word % 2 ^ count * 2 ^ (at % 8)) (at % 8 + k) ≡ false
  moved_out k h = digit_up (word % 2 ^ count) (at % 8) k ∙ digit_high (word % 2 ^ count) k count (mod-lt word (pow_pos count)) h

  module _ (f : ℕ → Bool) (base : List ℕ) (e : (k : ℕ) → k < count → f (at + k) ≡ digit word k) where
    moved_digit : (k : ℕ) → marked (tabulate (at + count) f) (at + k) ≡ digit (word % 2 ^ count * 2 ^ (at % 8)) (at % 8 + k)
    moved_digit k = elim (dec_lt k count) [
      | yes h ↦ mark_in f (at + count) (at + k) (omega (arith, h)) ∙ e k h ∙ sym (moved_in k h)
      | no h ↦ mark_out f (at + count) (at + k) (omega (arith, h)) ∙ sym (moved_out k (omega (arith, h)))
    ]

    next_digit : (k : ℕ) → k < 8
        → digit (next_byte (written (bytes (tabulate at f)) base) at word count) k ≡ marked (tabulate (at + count) f) (at / 8 * 8 + k)
    unfolding next_byte
    next_digit k h =
        digit_or _ _ k ∙ ap (λ (b : Bool). b or digit (word % 2 ^ count * 2 ^ (at % 8)) k) (begun_digit f base at k h)
        ∙ elim (dec_lt k (at % 8)) [
          | yes l ↦
              ap (λ (b : Bool). marked (tabulate at f) (at / 8 * 8 + k) or b) (digit_up_low (word % 2 ^ count) (at % 8) k l)
              ∙ or_false _ ∙ mark_in f at (at / 8 * 8 + k) (omega (arith, l)) ∙ sym (mark_in f (at + count) (at / 8 * 8 + k) (omega (arith, l)))
          | no l ↦
              let i : k ≡ at % 8 + (k - at % 8) = omega (arith, l) in
              let j : at / 8 * 8 + k ≡ at + (k - at % 8) = omega (arith, l) in
              or_first _ (mark_out f at (at / 8 * 8 + k) (omega (arith, l)))
              ∙ ap (digit (word % 2 ^ count * 2 ^ (at % 8))) i ∙ sym (moved_digit (k - at % 8)) ∙ ap (marked (tabulate (at + count) f)) (sym j)
        ]

    next_is : next_byte (written (bytes (tabulate at f)) base) at word count ≡ byte_of (tabulate (at + count) f) (at / 8)
    unfolding next_byte byte_of
    next_is = number_is 8 _ _ (or_lt 8 _ _ (begun_lt f base at) moved_lt) next_digit

  pub bits_part : (old : List ℕ) → BitsWritten word at count old (set old (at / 8) (next_byte old at word count))
  bits_part old f base h e w =
      rw (w, next_is f base e) (held_more f base at (at + count) (at / 8) (omega arith) (omega (arith, some)) (omega (arith, fits)) h)

-- a whole byte
whole_byte : (b : List ℕ) (at word : ℕ) → at % 8 ≡ 0 → next_byte b at word 8 ≡ bit_and word 255
unfolding next_byte begun_byte
whole_byte b at word e = rw (eq-eqb (at % 8) 0 e, e, or_zero_l (word % 2 ^ 8 * 2 ^ 0)) (mul-one (word % 2 ^ 8) ∙ sym (and_mask word 8))

-- what is left of a word after k bytes, less a byte
pub left_byte : (word k : ℕ) → word / 2 ^ (8 * k) / 2 ^ 8 ≡ word / 2 ^ (8 * (k + 1))
left_byte word k = let s : 8 * k + 8 ≡ 8 * (k + 1) = omega arith in shr-shr word (8 * k) 8 ∙ ap (λ (i : ℕ). word / 2 ^ i) s

-- no bits, bits after bits, and a byte after whole bytes
module _ (word at : ℕ) where
  pub bits_start : (old : List ℕ) → BitsWritten word at 0 old old
  bits_start old f base h e w = rw (add-zero at) w

  pub bits_join : (i j : ℕ) (old mid new : List ℕ) → BitsWritten word at i old mid → BitsWritten (word / 2 ^ i) (at + i) j mid new
      → BitsWritten word at (i + j) old new
  bits_join i j old mid new a b f base h e w =
      let s : at + (i + j) ≡ at + i + j = omega arith in
      rw s
      (b f base (omega (arith, h))
      (λ k l. let t : at + i + k ≡ at + (i + k) = omega arith in ap f t ∙ e (i + k) (omega (arith, l)) ∙ sym (digit_shift word i k))
      (a f base (omega (arith, h)) (λ k l. e k (omega (arith, l))) w))

  pub bits_byte : (k : ℕ) (old mid : List ℕ) → at % 8 ≡ 0 → BitsWritten word at (8 * k) old mid
      → BitsWritten word at (8 * (k + 1)) old (set mid (at / 8 + k) (bit_and (word / 2 ^ (8 * k)) 255))
  bits_byte k old mid z b =
      let s : 8 * (k + 1) ≡ 8 * k + 8 = omega arith in
      let q : at / 8 + k ≡ (at + 8 * k) / 8 = omega (arith, z) in
      let r : (at + 8 * k) % 8 ≡ 0 = omega (arith, z) in
      rw (s, q, sym (whole_byte mid (at + 8 * k) (word / 2 ^ (8 * k)) r))
      (bits_join (8 * k) 8 old mid _ b (bits_part (word / 2 ^ (8 * k)) (at + 8 * k) 8 (omega arith) (omega (arith, r)) mid))

-- ---- word by word in a row, and row by row

pub row_inside : (n v : ℕ) → v < n → v * n + n ≤ n * n
row_inside n v hv = omega (arith, suc-mul v n, mul-le-mul_right n hv)

module _ (n : ℕ) (rel : Rel) where
  pub row_start_lem : (v : ℕ) (old : List ℕ) → RowWritten n rel v 0 old old
  row_start_lem v old base h e = rw (add-zero (v * n)) e

  mark_is : (v k : ℕ) → k < n → row_mark n rel (v * n + k) ≡ rel v k
  unfolding row_mark
  mark_is v k l = rw (digits_div v l, digits_mod v l) refl

  -- a word's bits are marks of the row, or all of them
  pub row_whole : (v word : ℕ) (old new : List ℕ) → v < n → ((k : ℕ) → k < n → rel v k ≡ digit word k) → BitsWritten word (v * n) n old new
      → RowWritten n rel v n old new
  row_whole v word old new hv d bits base h q =
      bits (row_mark n rel) base (omega (arith, h, row_inside n v hv)) (λ k m. mark_is v k m ∙ d k m) q

  pub row_next : (v w end word : ℕ) (old mid new : List ℕ) → v < n → w ≤ end → end ≤ n → ((k : ℕ) → k < end - w → rel v (w + k) ≡ digit word k)
      → RowWritten n rel v w old mid → BitsWritten word (v * n + w) (end - w) mid new → RowWritten n rel v end old new
  row_next v w end word old mid new hv a b d r bits base h q =
      let s : v * n + end ≡ v * n + w + (end - w) = omega (arith, a) in
      rw s
      (bits (row_mark n rel) base (omega (arith, a, b, h, row_inside n v hv))
      (λ k m.
      let i : v * n + w + k ≡ v * n + (w + k) = omega arith in
      ap (row_mark n rel) i ∙ mark_is v (w + k) (omega (arith, b, m)) ∙ d k m) (r base h q))

  pub rows_next : (v : ℕ) (base old new : List ℕ) → marks_length n ≤ length base → old ≡ written (bytes (tabulate (v * n) (row_mark n rel))) base
      → RowWritten n rel v n old new → new ≡ written (bytes (tabulate ((v + 1) * n) (row_mark n rel))) base
  rows_next v base old new h e r = rw (add-one v, suc-mul v n) (r base h e)

-- a word of a row of eight holds the row's bits from a multiple of 64 on
pub cells_are : (rows : List ℕ) (v w k : ℕ) → w % 64 ≡ 0 → k < 64 → cell rows v (w + k) ≡ digit (get_or rows (v * row_words + w / 64) 0) k
cells_are rows v w k z h = let s : w + k ≡ w / 64 * 64 + k = omega arith in ap (cell rows v) s ∙ cell_at rows v (w / 64) k h

-- the marks of all pairs
pub rows_are : (n : ℕ) (rel : Rel) (m : Marks) (old new : List ℕ) → RowsWritten n rel old new → length m ≡ n * n
    → ((v w : ℕ) → v < n → w < n → rel v w ≡ marked m (v * n + w)) → new ≡ written (bytes m) old
unfolding row_mark
rows_are n rel m old new r l e =
    r ∙ ap (λ (k : Marks). written (bytes k) old)
    (sym (tabulate_by (n * n) _ false m l
    (λ i h. sym (e (i / n) (i % n) (row_lt n n i h) (col_lt n n i h) ∙ ap (λ (k : ℕ). marked m k) (div-add-mod' i n)))))

-- a buffer that is written so, copied
pub copied_is : (new old from old' new' : List ℕ) → from ≡ written new old → Copied (length new) from old' new' → new' ≡ written new old'
copied_is new old from old' new' e c =
    c ∙ ap (λ (l : List ℕ). written l old')
    (sym (tabulate_by (length new) _ 0 new refl (λ i h. sym (rw e (get_d_written new old i 0 h)))))
