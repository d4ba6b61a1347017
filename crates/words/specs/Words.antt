-- Lists of words as sets of numbers.
use Rattle.std.specs.Prelude.{Bool, List, ℕ, ◌/◌, ◌%◌, get_or}
use Rattle.words.specs.Word.{word_bits, digit}

-- x is in the set: bit x % 64 of word x / 64
unfoldable pub has : List ℕ → ℕ → Bool
has words x = digit (get_or words (x / word_bits) 0) (x % word_bits)
