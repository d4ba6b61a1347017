-- Laws of marks in memory.
use Rattle.std.specs.Prelude.{◌≡◌, ◌↔◌, false, not, List, ℕ, ◌+◌, ◌-◌, ◌*◌, ◌/◌, ◌%◌, ◌^◌, ◌≤◌, ◌<◌, eqb, length, get_or}
use Rattle.std.proofs.Math.Path.{refl, ap}
use Rattle.std.proofs.Common.{sym, ◌∙◌, mul-le-mul, div-add-mod', arith}
use Rattle.std.proofs.Math.Bool.{So}
use Rattle.std.proofs.Math.Decide.{dec_lt}
use Rattle.std.proofs.lemmas.Nat.{shr_le}
use Rattle.std.proofs.Math.ListN.{get_or-eq_default}
use Rattle.theory.proofs.Logic.BoolsLaws.{clash, So_ext, So_not}
use Rattle.theory.specs.Logic.Range.{any_below}
use Rattle.theory.proofs.Logic.RangeLaws.{any_in, any_out, from_in, from_out, from_end}
use Rattle.theory.proofs.Logic.ListLaws.{length_tabulate, get_d_tabulate}
use Rattle.theory.specs.Order.Passes.{Marks, marked, rel_of}
use Rattle.words.specs.Word.{word_bits, digit}
use Rattle.words.specs.WordLaws.{digit_zero, digit_shift, digit_high, word_some}
use Rattle.words.specs.NumberLaws.{digit_number}
use Rattle.table.specs.Limits.{vertex_limit}
use Rattle.table.specs.Rules.{Some}
use Rattle.table.specs.Answers.{written}
use Rattle.table.specs.AnswersLaws.{get_d_written}
use Rattle.marks.specs.Marks.{bytes_for, marks_length, InMarks, is_mark, byte_of, bytes, relation, Marked, has_unused, Clear}

-- ---- a mark and the relation

pub in_marks : (n : ℕ) (b : List ℕ) (i : ℕ) → i < n * n → n ≤ vertex_limit → marks_length n ≤ length b → InMarks b i
in_marks n b i h l m = (omega (arith, h, mul-le-mul l l), omega (arith, h, m))

module _ (n : ℕ) (b : List ℕ) (v w : ℕ) where
  pub relation_mark : relation n b v w ≡ is_mark b (v * n + w)
  unfolding relation rel_of
  relation_mark = refl

  pub marked_out : So (relation n b v w) → Marked n b v w
  marked_out t = sym relation_mark ∙ t

  pub marked_in : Marked n b v w → So (relation n b v w)
  marked_in m = relation_mark ∙ m

-- a byte of 0 holds no mark
pub zero_mark : (b : List ℕ) (i : ℕ) → get_or b (i / 8) 0 ≡ 0 → is_mark b i ≡ false
unfolding is_mark
zero_mark b i e = ap (λ (x : ℕ). digit x (i % 8)) e ∙ digit_zero (i % 8)

-- ---- bytes of marks

module _ (m : Marks) where
  pub length_bytes : length (bytes m) ≡ bytes_for (length m)
  unfolding bytes
  length_bytes = length_tabulate (bytes_for (length m)) (byte_of m)

  pub get_d_bytes : (j : ℕ) → j < bytes_for (length m) → get_or (bytes m) j 0 ≡ byte_of m j
  unfolding bytes
  get_d_bytes j h = get_d_tabulate (bytes_for (length m)) (byte_of m) 0 j h

  pub digit_byte_of : (j k : ℕ) → k < 8 → digit (byte_of m j) k ≡ marked m (j * 8 + k)
  unfolding byte_of
  digit_byte_of j k h = digit_number 8 (λ i. marked m (j * 8 + i)) k h

  -- to read a mark undoes to write all
  pub mark_bytes : (i : ℕ) → i < bytes_for (length m) * 8 → is_mark (bytes m) i ≡ marked m i
  unfolding is_mark
  mark_bytes i h =
      ap (λ (x : ℕ). digit x (i % 8)) (get_d_bytes (i / 8) (omega (arith, h)))
      ∙ digit_byte_of (i / 8) (i % 8) (omega arith) ∙ ap (marked m) (div-add-mod' i 8)

  -- the same in a buffer that is written so
  pub mark_written : (old : List ℕ) (i : ℕ) → i < bytes_for (length m) * 8 → is_mark (written (bytes m) old) i ≡ marked m i
  unfolding is_mark
  mark_written old i h =
      ap (λ (x : ℕ). digit x (i % 8)) (get_d_written (bytes m) old (i / 8) 0 (omega (arith, length_bytes, h))) ∙ mark_bytes i h

  -- its unused bits are 0
  pub clear_written : (old : List ℕ) → Clear (written (bytes m) old) (length m)
  clear_written old i l h = mark_written old i h ∙ get_or-eq_default m false l

-- ---- unused bits of the last byte

module _ (b : List ℕ) (N : ℕ) where
  pub clear_in : Clear b N → has_unused b N ≡ false
  unfolding has_unused
  clear_in c = So_not (λ t. let r = from_out t in clash r.passes (c r.at r.low r.high))

  pub clear_out : has_unused b N ≡ false → Clear b N
  unfolding has_unused
  clear_out e i l h = So_not (λ t. clash (from_in N (bytes_for N * 8) (is_mark b) i l h t) e)

  pub unused_says : So (has_unused b N) ↔ Some (λ i. So (is_mark b i)) N (bytes_for N * 8)
  unfolding has_unused
  unused_says = (λ t. let r = from_out t in (r.at, r.low, r.high, r.passes), λ r. from_in N (bytes_for N * 8) (is_mark b) r.0 r.1 r.2 r.3)

  -- a last byte that is full has none
  pub unused_none : N % 8 ≡ 0 → has_unused b N ≡ false
  unfolding has_unused
  unused_none e = from_end N (bytes_for N * 8) (is_mark b) (omega (arith, e))

  -- they are the last byte's digits from N mod 8 on
  module _ (d : N % 8 ≡ 0 → ⊥) (small : get_or b (N / 8) 0 < 2 ^ 8) where
    unused_in : (k : ℕ) → So (digit (get_or b (N / 8) 0) (N % 8 + k)) → So (has_unused b N)
    unfolding has_unused is_mark
    unused_in k t = elim (dec_lt (N % 8 + k) 8) [
      | yes h ↦
          let q : (N + k) / 8 ≡ N / 8 = omega (arith, h) in
          let r : (N + k) % 8 ≡ N % 8 + k = omega (arith, h) in
          from_in N (bytes_for N * 8) _ (N + k) (omega arith) (omega (arith, h)) (rw (q, r) t)
      | no h ↦ clash t (digit_high (get_or b (N / 8) 0) (N % 8 + k) 8 small (omega (arith, h)))
    ]

    unused_out : So (has_unused b N) → So (any_below word_bits (digit (get_or b (N / 8) 0 / 2 ^ (N % 8))))
    unfolding has_unused is_mark
    unused_out t =
        let r = from_out t in
        let q : r.at / 8 ≡ N / 8 = omega (arith, r.low, r.high, d) in
        let e : r.at % 8 ≡ N % 8 + (r.at - N) = omega (arith, r.low, r.high, d) in
        any_in 64 _ (r.at - N) (omega (arith, r.low, r.high, d)) (digit_shift _ (N % 8) (r.at - N) ∙ (rw (q, e) at r.passes))

    pub unused_digits : not (eqb (get_or b (N / 8) 0 / 2 ^ (N % 8)) 0) ≡ has_unused b N
    unused_digits =
        word_some (get_or b (N / 8) 0 / 2 ^ (N % 8)) (omega (arith, shr_le (get_or b (N / 8) 0) (N % 8), small))
        ∙ So_ext (λ t. let r = any_out t in unused_in r.0 (sym (digit_shift (get_or b (N / 8) 0) (N % 8) r.0) ∙ r.2)) unused_out
