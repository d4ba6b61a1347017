-- Laws of rows one after another: a row that is read, put or added to, and united rows by their words.
use Rattle.std.specs.Prelude.{◌≡◌, Bool, false, not, List, ℕ, ◌+◌, ◌*◌, ◌/◌, ◌%◌, ◌≤◌, ◌<◌, eqb, length, get_or, set, replicate}
use Rattle.std.proofs.Math.Path.{refl}
use Rattle.std.proofs.Common.{sym, ap, ap₂, ◌∙◌, arith, get_or-set_same, get_or-set_other, eq-eqb}
use Rattle.std.proofs.Math.Decide.{ℕ_discrete}
use Rattle.std.proofs.Math.Arith.{digits_div, digits_mod}
use Rattle.theory.specs.Logic.Bools.{◌&◌, ◌or◌}
use Rattle.theory.proofs.Logic.BoolsLaws.{and_assoc, and_neither, and_one}
use Rattle.theory.specs.Logic.Range.{any_below}
use Rattle.theory.proofs.Logic.RangeLaws.{any_append, any_ext}
use Rattle.theory.proofs.Logic.CountLaws.{digits_one, digits_same}
use Rattle.theory.proofs.Logic.ListLaws.{zeros}
use Rattle.words.specs.Word.{word_bits, digit}
use Rattle.words.specs.Words.{has}
use Rattle.order_sets.specs.Sets.{Is, With, united_in}
use Rattle.order_rows.specs.Bits.{row_bits, row_words, cell, Put, Added, united_rows}
use Rattle.words.specs.WordLaws.{digit_zero}
use Rattle.words.specs.WordsLaws.{has_at, word_set, same_bit}

-- digit k of word j of row v
pub cell_at : (words : List ℕ) (v j k : ℕ) → k < word_bits → cell words v (j * 64 + k) ≡ digit (get_or words (v * row_words + j) 0) k
unfolding cell
cell_at words v j k h = rw (digits_div j h, digits_mod j h)

-- zeroed words hold nothing
pub cell_zero : (n v x : ℕ) → cell (replicate n 0) v x ≡ false
unfolding cell
cell_zero n v x = rw (zeros n (v * row_words + x / 64)) (digit_zero (x % 64))

-- ---- a row is put, word by word

pub record PutTo (k : ℕ) (old new : List ℕ) (v : ℕ) (r : List ℕ) : Type 0 where
  pub here : (x : ℕ) → x < k * 64 → has r x ≡ cell new v x
  pub other : (u x : ℕ) → (u ≡ v → ⊥) → x < row_bits → cell new u x ≡ cell old u x

pub put_start : (old : List ℕ) (v : ℕ) (r : List ℕ) → PutTo 0 old old v r
put_start old v r = record { here = λ x h. absurd (omega arith); other = λ u x d h. refl }

pub put_next : (k : ℕ) (old new : List ℕ) (v : ℕ) (r : List ℕ) → k < row_words → v * row_words + k < length new → PutTo k old new v r
    → PutTo (k + 1) old (set new (v * row_words + k) (get_or r k 0)) v r
unfolding cell has
put_next k old new v r hk l p = record {
  here = λ x h. elim (ℕ_discrete (x / 64) k) [
    | yes e ↦ rw (e, get_or-set_same new (v * row_words + k) (get_or r k 0) 0 l)
    | no e ↦ rw (get_or-set_other new (v * row_words + k) (v * row_words + x / 64) (get_or r k 0) 0 (λ d. e (omega arith))) (p.here x (omega arith))
  ];
  other = λ u x d h.
      rw (get_or-set_other new (v * row_words + k) (u * row_words + x / 64) (get_or r k 0) 0 (λ e. d (digits_one {n = row_words} (omega arith) hk e).0))
      (p.other u x d h);
}

pub put_end : (k : ℕ) (old new : List ℕ) (v : ℕ) (r : List ℕ) → row_words ≤ k → PutTo k old new v r → Put old new v r
put_end k old new v r l p = record { here = λ x h. p.here x (omega arith); other = p.other }

-- ---- a number is added to a row

pub add_is : (old : List ℕ) (v x z : ℕ) (b : Bool) → x < row_bits → v * row_words + x / 64 < length old
    → ((j : ℕ) → j < word_bits → digit z j ≡ ((eqb j (x % 64) & b) or digit (get_or old (v * row_words + x / 64) 0) j))
    → Added old (set old (v * row_words + x / 64) z) v x b
unfolding cell
add_is old v x z b h l d u y k =
    word_set old (v * row_words + x / 64) (x % 64) z b l d (u * row_words + y / 64) (y % 64) (omega arith)
    ∙ ap (λ a. a or digit (get_or old (u * row_words + y / 64) 0) (y % 64))
    (ap (λ a. a & (eqb (y % 64) (x % 64) & b)) (digits_same row_words u (y / 64) v (x / 64) (omega arith) (omega arith))
    ∙ and_assoc (eqb u v) _ _ ∙ ap (λ a. eqb u v & a) (sym (and_assoc _ _ b) ∙ ap (λ a. a & b) (same_bit x y)))

-- ---- united rows, word by word

module _ (words : List ℕ) (base : ℕ) (which : List ℕ) (x : ℕ) where
  -- x is in a row of the first j words
  abbrev pub united_to : ℕ → Bool
  united_to j = any_below (j * 64) (λ a. has which a & cell words (base + a) x)

  pub united_next : (j : ℕ) (b : Bool) → b ≡ united_to j
      → (b or any_below word_bits (λ k. digit (get_or which j 0) k & cell words (base + j * 64 + k) x)) ≡ united_to (j + 1)
  united_next j b f =
      let e : (j + 1) * 64 ≡ j * 64 + 64 = omega arith in
      ap₂ ◌or◌ f
      (any_ext 64 _ _ (λ k h. ap₂ ◌&◌ (sym (has_at which j k h)) (let s : base + j * 64 + k ≡ base + (j * 64 + k) = omega arith in rw s)))
      ∙ sym (ap (λ (i : ℕ). any_below i (λ a. has which a & cell words (base + a) x)) e ∙ any_append (j * 64) 64 _)

  pub united_end : united_to row_words ≡ united_rows words base which x
  unfolding united_in
  united_end = refl

-- no row of the first j words, nor of the next
pub stripped_next : (words which : List ℕ) (x j : ℕ) (a b : Bool) → a ≡ b & not (united_to words 0 which x j)
    → a & not (any_below word_bits (λ k. digit (get_or which j 0) k & cell words (j * 64 + k) x)) ≡ b & not (united_to words 0 which x (j + 1))
unfolding ◌&◌ ◌or◌
stripped_next words which x j a b e =
    rw (e, sym (united_next words 0 which x j (united_to words 0 which x j) refl), any_ext word_bits _ _ same) (and_neither b (united_to words 0 which x j) _)
  where
    same : (k : ℕ) → k < word_bits → digit (get_or which j 0) k & cell words (j * 64 + k) x ≡ digit (get_or which j 0) k & cell words (0 + j * 64 + k) x
    same k h = let s : j * 64 + k ≡ 0 + j * 64 + k = omega arith in rw s

-- ---- a row by itself

pub cell_row : (words : List ℕ) (x : ℕ) → cell words 0 x ≡ has words x
unfolding cell has
cell_row words x = let s : 0 * row_words + x / 64 ≡ x / 64 = omega arith in rw s

pub row_alone : (words : List ℕ) (p : ℕ → Bool) → Is row_bits p (cell words 0) → Is row_bits p (has words)
row_alone words p e x h = e x h ∙ cell_row words x

pub added_alone : (old new : List ℕ) (x : ℕ) (b : Bool) → Added old new 0 x b → With row_bits (has old) (has new) x b
added_alone old new x b a y h = sym (cell_row new y) ∙ a 0 y h ∙ ap₂ ◌or◌ (and_one _ (eq-eqb 0 0 refl)) (cell_row old y)
