-- Laws of rows of one word in a list: a word that is stored is a row that is put, or a row that gains a number.
use Rattle.std.specs.Prelude.{◌≡◌, Bool, List, ℕ, ◌+◌, ◌<◌, length, get_or, set}
use Rattle.std.proofs.Common.{ap, ◌∙◌, subst, arith, length-set, get_or-set_same, get_or-set_other, set-set}
use Rattle.words.specs.Word.{word_bits, digit}
use Rattle.words.specs.WordsLaws.{word_set}
use Rattle.order_sets.specs.Sets.{Is, With, PutIn, AddedIn}
use Rattle.order_sets.specs.Losses.{differs}
use Rattle.order_small_losses.specs.Words.{bit}

module _ (words : List ℕ) (v z : ℕ) (inside : v < length words) where
  -- word v is now z
  pub word_put : PutIn word_bits (bit words) (bit (set words v z)) v (digit z)
  unfolding bit
  word_put = record {
    here = λ x h. rw (get_or-set_same words v z 0 inside);
    other = λ u x d h. rw (get_or-set_other words v u z 0 d);
  }

  -- z is word v with x in it too, if b
  pub word_added : (x : ℕ) (b : Bool) → With word_bits (digit (get_or words v 0)) (digit z) x b → AddedIn word_bits (bit words) (bit (set words v z)) v x b
  unfolding bit
  word_added x b d u y h = word_set words v x z b inside d u y h

-- a number is stored alone: the word is emptied, and then gains it
pub word_anew : (words : List ℕ) (v z : ℕ) → v < length words → (x : ℕ) (b : Bool) → With word_bits (digit 0) (digit z) x b
    → AddedIn word_bits (bit (set words v 0)) (bit (set words v z)) v x b
word_anew words v z inside x b d =
    subst (λ (l : List ℕ). AddedIn word_bits (bit (set words v 0)) (bit l) v x b) (set-set words v 0 z)
    (word_added (set words v 0) v z (rw (length-set words v 0) inside) x b (rw (get_or-set_same words v 0 0 inside) d))

-- the word of the vertices from 0 on whose word in a table isn't a value
pub word_differs : (words : List ℕ) (from n value z : ℕ) → ((k : ℕ) → k < word_bits → digit z k ≡ differs words from n value (0 + k))
    → Is word_bits (digit z) (differs words from n value)
word_differs words from n value z d k h = let e : 0 + k ≡ k = omega arith in d k h ∙ ap (differs words from n value) e
