-- Laws of rows: a row that is filled word by word, what is in it by its words, and the first number in it.
use Rattle.std.specs.Prelude.{◌≡◌, Bool, List, ℕ, ◌+◌, ◌*◌, ◌/◌, ◌%◌, ◌≤◌, ◌<◌, length, get_or, set}
use Rattle.std.proofs.Common.{sym, ap, ◌∙◌, inl, inr, length-set, get_or-set_same, get_or-set_other}
use Rattle.std.proofs.Math.Decide.{ℕ_discrete}
use native.Mathlib.Omega.{arith}
use Rattle.std.proofs.Math.Arith.{digits_mod}
use Rattle.theory.specs.Logic.Bools.{◌or◌}
use Rattle.theory.proofs.Logic.BoolsLaws.{So_ext, or_left, or_right, or_out}
use Rattle.theory.specs.Logic.Range.{any_below, count, first}
use Rattle.theory.proofs.Logic.RangeLaws.{any_in, any_out, any_append, any_ext, first_is, first_ge, first_passes, first_before, first_skip}
use Rattle.theory.proofs.Logic.CountLaws.{count_append, count_ext}
use Rattle.words.specs.Word.{word_bits, digit}
use Rattle.words.specs.Words.{has}
use Rattle.words.specs.WordsLaws.{has_at}
use Rattle.order_rows.specs.Bits.{row_bits, row_words, RowIs}

-- ---- filling a row

-- a row, whose first k words hold what passes
abbrev pub Filled : ℕ → List ℕ → (ℕ → Bool) → Type 0
Filled k r p = (length r ≡ row_words) × ((x : ℕ) → x < k * 64 → has r x ≡ p x)

pub filled_start : (r : List ℕ) (p : ℕ → Bool) → length r ≡ row_words → Filled 0 r p
filled_start r p e = (e, λ x h. absurd (omega arith))

pub filled_next : (k z : ℕ) (r : List ℕ) (p : ℕ → Bool) → k < row_words → Filled k r p → ((j : ℕ) → j < word_bits → digit z j ≡ p (k * 64 + j))
    → Filled (k + 1) (set r k z) p
unfolding has
filled_next k z r p l f d = (
  length-set r k z ∙ f.0,
  λ x h. elim (ℕ_discrete (x / 64) k) [
    | yes e ↦ (let s : k * 64 + x % 64 ≡ x = omega arith in
        rw (e, get_or-set_same r k z 0 (omega (arith, f.0))) (d (x % 64) (omega arith) ∙ ap p s))
    | no e ↦ rw (get_or-set_other r k (x / 64) z 0 e) (f.1 x (omega arith))
  ],
)

pub filled_end : (k : ℕ) (r : List ℕ) (p : ℕ → Bool) → row_words ≤ k → Filled k r p → RowIs r p
filled_end k r p l f x h = f.1 x (omega arith)

-- ---- what is in a row, by its words

pub any_or : (n : ℕ) (p q : ℕ → Bool) → any_below n (λ i. p i or q i) ≡ (any_below n p or any_below n q)
any_or n p q =
    So_ext
    (λ t. let r = any_out t in elim (or_out r.2) [ inl a ↦ or_left _ (any_in n p r.0 r.1 a) | inr b ↦ or_right _ (any_in n q r.0 r.1 b) ])
    (λ t. elim (or_out t) [
      | inl a ↦ (let r = any_out a in any_in n _ r.0 r.1 (or_left _ r.2))
      | inr b ↦ (let r = any_out b in any_in n _ r.0 r.1 (or_right _ r.2))
    ])

pub any_words : (k : ℕ) (a : List ℕ) → any_below ((k + 1) * 64) (has a) ≡ (any_below (k * 64) (has a) or any_below word_bits (digit (get_or a k 0)))
any_words k a =
    let e : (k + 1) * 64 ≡ k * 64 + 64 = omega arith in
    ap (λ (i : ℕ). any_below i (has a)) e ∙ any_append (k * 64) 64 (has a)
    ∙ ap (λ b. any_below (k * 64) (has a) or b) (any_ext 64 _ _ (has_at a k))

pub count_words : (k : ℕ) (a : List ℕ) → count ((k + 1) * 64) (has a) ≡ count (k * 64) (has a) + count word_bits (digit (get_or a k 0))
count_words k a =
    let e : (k + 1) * 64 ≡ k * 64 + 64 = omega arith in
    ap (λ (i : ℕ). count i (has a)) e ∙ count_append (k * 64) 64 (has a)
    ∙ ap (λ (c : ℕ). count (k * 64) (has a) + c) (count_ext 64 _ _ (has_at a k))

-- ---- the first number from a place on, by its word

module _ (r : List ℕ) (at : ℕ) (h : at < row_bits) where
  abbrev word : ℕ
  word = get_or r (at / 64) 0

  -- the first digit of the word
  abbrev found : ℕ
  found = first (digit word) (at % 64) 64

  has_in : (i : ℕ) → at / 64 * 64 ≤ i → i < (at / 64 + 1) * 64 → has r i ≡ digit word (i % 64)
  unfolding has
  has_in i a b = let e : i / 64 ≡ at / 64 = omega arith in rw e

  pub first_here : found < 64 → at / 64 * 64 + found ≡ first (has r) at row_bits
  first_here l =
      let g = first_ge (digit word) (at % 64) 64 in
      sym (first_is (has r) at row_bits (at / 64 * 64 + found) (omega (arith, g)) (omega (arith, l))
      (has_in (at / 64 * 64 + found) (omega arith) (omega (arith, l))
      ∙ rw (digits_mod (at / 64) l) (first_passes (digit word) (at % 64) 64 (omega arith) l))
      (λ j x y. has_in j (omega arith) (omega (arith, l)) ∙ first_before (digit word) (at % 64) 64 (j % 64) (omega arith) (omega (arith, y))))

  pub first_later : (found < 64 → ⊥) → first (has r) at row_bits ≡ first (has r) ((at / 64 + 1) * 64) row_bits
  first_later d =
      first_skip (has r) at ((at / 64 + 1) * 64) row_bits (omega arith) (omega arith)
      (λ i x y. has_in i (omega arith) y ∙ first_before (digit word) (at % 64) 64 (i % 64) (omega arith) (omega arith))
