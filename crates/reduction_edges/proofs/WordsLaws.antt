-- Laws of a row of marks that is compared or united with a row of bits, word by word.
use Rattle.std.specs.Prelude.{◌≡◌, refl, false, List, ℕ, ◌+◌, ◌-◌, ◌*◌, ◌/◌, ◌%◌, ◌≤◌, ◌<◌, min, eqb, ltb, length, get_or, set}
use Rattle.std.proofs.Math.Path.{sym, ap, ap₂}
use Rattle.std.proofs.Common.{◌∙◌, get_or-set_same, get_or-set_other}
use Rattle.std.proofs.Math.Bool.{So, not}
use Rattle.std.proofs.Math.Decide.{dec_lt, ℕ_discrete}
use native.Mathlib.Omega.{arith}
use Rattle.std.specs.Int.Bits.{bit_and, bit_or, bit_xor}
use borrow.Author.Tests.{eqb-true, eq-eqb, ltb-true, lt-ltb, le-ltb}
use Rattle.theory.specs.Logic.Bools.{◌&◌, ◌or◌}
use Rattle.theory.proofs.Logic.BoolsLaws.{So_ext, So_not, clash, and_in, and_out, and_first, and_fails, and_flip, or_false}
use Rattle.theory.specs.Logic.Range.{any_below}
use Rattle.theory.proofs.Logic.RangeLaws.{any_in, any_out, any_ext, any_fails}
use Rattle.words.specs.Word.{word_bits, digit}
use Rattle.words.specs.WordLaws.{digit_zero, digit_and, digit_or, digit_less}
use Rattle.words.specs.Words.{has}
use Rattle.marks.specs.Marks.{relation, is_mark}
use Rattle.marks.specs.MarksLaws.{relation_mark}
use Rattle.marks.specs.MarkReading.{BitsRead}
use Rattle.reduction_edges.specs.LittleBrothers.{below_other, beaten_at, beaten}

-- ---- the word of a row of marks, without the bit of d itself

module _ (n : ℕ) (marks : List ℕ) (d w end word own : ℕ) (start : w % word_bits ≡ 0) (e : end ≡ min n (w + word_bits)) (h : w < n)
    (read : BitsRead marks (d * n + w) (end - w) word)
    (bits : (j : ℕ) → j < word_bits → digit own j ≡ ((eqb j (d % 64) & eqb (d / 64) (w / 64)) or digit 0 j)) where
  mark_at : (k : ℕ) → k < end - w → digit word k ≡ relation n marks d (w + k)
  mark_at k l =
      let s : d * n + w + k ≡ d * n + (w + k) = omega arith in
      read.0 k l ∙ ap (is_mark marks) s ∙ sym (relation_mark n marks d (w + k))

  own_at : (k : ℕ) → k < word_bits → digit own k ≡ eqb (w + k) d
  own_at k l =
      bits k l ∙ ap (λ b. (eqb k (d % 64) & eqb (d / 64) (w / 64)) or b) (digit_zero k) ∙ or_false _
      ∙ So_ext
      (λ t. let c = and_out t in eq-eqb (w + k) d (omega (arith, start, l, eqb-true k (d % 64) c.0, eqb-true (d / 64) (w / 64) c.1)))
      (λ t. let q = eqb-true (w + k) d t in and_in (eq-eqb k (d % 64) (omega (arith, start, l, q))) (eq-eqb (d / 64) (w / 64) (omega (arith, start, l, q))))

  pub word_is : (k : ℕ) → k < word_bits → digit (bit_xor word (bit_and word own)) k ≡ ltb (w + k) n & below_other n marks d (w + k)
  unfolding below_other
  word_is k l =
      digit_less word own k ∙ ap (λ b. digit word k & not b) (own_at k l)
      ∙ So_ext
      (λ t. let c = and_out t in elim (dec_lt k (end - w)) [
        | yes m ↦ and_in (lt-ltb (w + k) n (omega (arith, e, m))) (and_in c.1 (rw (← mark_at k m) c.0))
        | no m ↦ clash c.0 (read.1 k (omega (arith, m)))
      ])
      (λ t. let c = and_out t in
      let p = and_out c.1 in
      let m : k < end - w = omega (arith, e, l, ltb-true (w + k) n c.0) in
      and_in (rw (mark_at k m) p.1) p.0)

-- a bit of a row by its word
row_word : (row : List ℕ) (w k : ℕ) → w % word_bits ≡ 0 → k < word_bits → digit (get_or row (w / 64) 0) k ≡ has row (w + k)
unfolding has
row_word row w k z l =
    let q : (w + k) / 64 ≡ w / 64 = omega arith in
    let r : (w + k) % 64 ≡ k = omega arith in
    rw (q, r)

-- ---- compared with a row

module _ (n : ℕ) (marks row : List ℕ) (d w : ℕ) where
  -- an empty word has none
  pub word_none : w % word_bits ≡ 0 → get_or row (w / 64) 0 ≡ 0 → (k : ℕ) → k < word_bits → digit 0 k ≡ beaten_at n marks row d w k
  unfolding beaten_at
  word_none start z k l = digit_zero k ∙ sym (and_fails _ (has row (w + k)) (sym (row_word row w k start l) ∙ rw z (digit_zero k)))

  pub word_both : (word : ℕ) → w % word_bits ≡ 0 → ((k : ℕ) → k < word_bits → digit word k ≡ ltb (w + k) n & below_other n marks d (w + k))
      → (k : ℕ) → k < word_bits → digit (bit_and word (get_or row (w / 64) 0)) k ≡ beaten_at n marks row d w k
  unfolding beaten_at
  word_both word start is k l = digit_and word _ k ∙ ap₂ ◌&◌ (is k l) (row_word row w k start l)

  pub word_some : (word : ℕ) → ((k : ℕ) → k < word_bits → digit word k ≡ beaten_at n marks row d w k)
      → any_below word_bits (digit word) ≡ any_below word_bits (beaten_at n marks row d w)
  word_some word is = any_ext word_bits _ _ is

  pub beaten_here : So (any_below word_bits (beaten_at n marks row d w)) → So (beaten n marks row d)
  unfolding beaten beaten_at
  beaten_here t =
      let r = any_out t in
      let c = and_out r.2 in
      let p = and_out c.0 in
      any_in n _ (w + r.0) (ltb-true _ n p.0) (and_in c.1 p.1)

  -- none before w, and none in the word
  pub beaten_next : any_below word_bits (beaten_at n marks row d w) ≡ false → ((x : ℕ) → x < n → x < w → has row x & below_other n marks d x ≡ false)
      → (x : ℕ) → x < n → x < w + 64 → has row x & below_other n marks d x ≡ false
  unfolding beaten_at
  beaten_next f none x h l = elim (dec_lt x w) [
    | yes m ↦ none x h m
    | no m ↦ (
        let s : w + (x - w) ≡ x = omega arith in
        let z : x - w < word_bits = omega arith in
        So_not (λ t. let c = and_out t in
        clash (rw s (and_in (and_in (lt-ltb x n h) c.1) c.0)) (any_fails word_bits (beaten_at n marks row d w) f (x - w) z)))
  ]

pub beaten_none : (n : ℕ) (marks row : List ℕ) (d w : ℕ) → n ≤ w → ((x : ℕ) → x < n → x < w → has row x & below_other n marks d x ≡ false) → beaten n marks row d ≡ false
unfolding beaten
beaten_none n marks row d w l none = So_not (λ t. let r = any_out t in clash r.2 (none r.0 r.1 (omega (arith, r.1))))

-- ---- united with a row

module _ (n : ℕ) (marks row : List ℕ) (d : ℕ) (old : List ℕ) where
  -- the words before w are united
  abbrev pub United : ℕ → List ℕ → Type 0
  United w new = (x : ℕ) → x < n → has new x ≡ (has old x or (ltb x w & (has row x & below_other n marks d x)))

  pub united_start : United 0 old
  united_start x h = sym (rw (le-ltb x 0 (omega arith), and_first {a = false} (has row x & below_other n marks d x) refl) (or_false (has old x)))

  module _ (new : List ℕ) (w word : ℕ) (start : w % word_bits ≡ 0) (room : w / 64 < length new) (united : United w new)
      (is : (k : ℕ) → k < word_bits → digit word k ≡ beaten_at n marks row d w k) where
    abbrev after : List ℕ
    after = set new (w / 64) (bit_or (get_or new (w / 64) 0) word)

    bit_here : (k : ℕ) → k < word_bits → has after (w + k) ≡ (has new (w + k) or beaten_at n marks row d w k)
    bit_here k l =
        sym (row_word after w k start l)
        ∙ rw (get_or-set_same new (w / 64) (bit_or (get_or new (w / 64) 0) word) 0 room) (digit_or _ word k ∙ ap₂ ◌or◌ (row_word new w k start l) (is k l))

    bit_other : (x : ℕ) → (x / 64 ≡ w / 64 → ⊥) → has after x ≡ has new x
    unfolding has
    bit_other x f = rw (get_or-set_other new (w / 64) (x / 64) (bit_or (get_or new (w / 64) 0) word) 0 f)

    same_part : (x : ℕ) → (x / 64 ≡ w / 64 → ⊥) → ltb x w ≡ ltb x (w + 64)
    same_part x f =
        So_ext (λ t. lt-ltb x (w + 64) (omega (arith, ltb-true x w t))) (λ t. lt-ltb x w (omega (arith, start, f, ltb-true x (w + 64) t)))

    in_word : (x : ℕ) → x < n → x / 64 ≡ w / 64 → has after x ≡ (has old x or (ltb x (w + 64) & (has row x & below_other n marks d x)))
    unfolding ◌&◌ beaten_at
    in_word x h q =
        let s : w + x % 64 ≡ x = omega arith in
        ap (has after) (sym s) ∙ bit_here (x % 64) (omega arith)
        ∙ rw (s, lt-ltb x n h, united x h, le-ltb x w (omega arith), lt-ltb x (w + 64) (omega arith), or_false (has old x), and_flip (below_other n marks d x) (has row x))

    pub united_next : United (w + 64) after
    united_next x h = elim (ℕ_discrete (x / 64) (w / 64)) [
      | yes q ↦ in_word x h q
      | no f ↦ bit_other x f ∙ united x h ∙ rw (same_part x f)
    ]

  pub united_end : (w : ℕ) (new : List ℕ) → n ≤ w → United w new → (x : ℕ) → x < n → has new x ≡ (has old x or (has row x & below_other n marks d x))
  unfolding ◌&◌
  united_end w new l united x h = united x h ∙ rw (lt-ltb x w (omega arith))
