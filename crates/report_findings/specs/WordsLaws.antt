-- Laws of bytes as words.
use Rattle.std.specs.Prelude.{◌≡◌, List, ℕ, ◌+◌, ◌*◌, ◌≤◌, length, get_or, take, drop}
use Rattle.std.proofs.Common.{sym, arith, take_at}
use Rattle.std.proofs.Math.ListN.{length-append, get_or-eq_default}
use Rattle.table.specs.Answers.{written}
use Rattle.report_findings.specs.Words.{word_at, words_in, words_of}

-- the last half word
pub half_word : (bytes : List ℕ) (i : ℕ) → length bytes ≤ 2 * i + 1 → word_at bytes i ≡ get_or bytes (2 * i) 0
unfolding word_at
half_word bytes i h = omega (arith, get_or-eq_default bytes 0 h)

-- i is the number of words once 2 × i reaches the last byte
pub words_end : (bytes : List ℕ) (i : ℕ) → length bytes ≤ 2 * i → 2 * i ≤ length bytes + 1 → i ≡ words_in bytes
unfolding words_in
words_end bytes i h k = omega arith

-- the first r words of the buffer, once decoded
module _ (bytes old new : List ℕ) (r : ℕ) (e : r ≡ length (words_of bytes)) (w : new ≡ written (words_of bytes) old) where
  pub decoded_inside : r ≤ length new
  unfolding written
  decoded_inside = rw w (omega (arith, length-append (words_of bytes) (drop (length (words_of bytes)) old)))

  pub decoded_words : take r new ≡ words_of bytes
  unfolding written
  decoded_words = rw w (take_at (words_of bytes) (drop (length (words_of bytes)) old) r (sym e))
