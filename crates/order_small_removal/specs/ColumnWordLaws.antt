-- Laws of a column that is one word: its bits are the rows from 0 on.
use Rattle.std.specs.Prelude.{◌≡◌, refl, Bool, ℕ, ◌+◌, ◌*◌}
use Rattle.std.proofs.Common.{ap, subst, arith}
use Rattle.theory.specs.Order.Passes.{Rel}
use Rattle.words.specs.Word.{word_bits, digit}
use Rattle.order_sets.specs.Reverses.{MoreIn, one_pair, word_pairs, column_pairs}
use Rattle.order_sets.specs.ReversesLaws.{column_start, column_next, column_end}

module _ (v : ℕ) (next : Rel) (losing : ℕ → Bool) (next' : Rel) (losing' : ℕ → Bool) where
  -- row k is row 0 + k
  pub pair_base : (k : ℕ) → MoreIn word_bits (one_pair k v) next losing next' losing' → MoreIn word_bits (one_pair (0 + k) v) next losing next' losing'
  pair_base k = let e : k ≡ 0 + k = omega arith in subst (λ (i : ℕ). MoreIn word_bits (one_pair i v) next losing next' losing') e

  -- the word is the whole column
  pub column_word : (which : ℕ) → MoreIn word_bits (word_pairs 0 which v) next losing next' losing'
      → MoreIn word_bits (column_pairs (digit which) v) next losing next' losing'
  column_word which m =
      column_end word_bits (digit which) v next losing 1 next' losing' refl
      (column_next word_bits (digit which) v next losing 0 which next losing next' losing'
      (λ k h. let e : 0 * 64 + k ≡ k = omega arith in ap (digit which) e) (column_start word_bits (digit which) v next losing) m)
