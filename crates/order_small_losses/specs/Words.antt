-- Rows of one word: a word is a set of numbers below 64, and words one after another are a relation.
use Rattle.std.specs.Prelude.{Bool, List, ℕ, ◌+◌, ◌*◌, get_or}
use Rattle.words.specs.Word.{word_bits, digit}

-- x is in word v
unfoldable pub bit : List ℕ → ℕ → ℕ → Bool
bit words v x = digit (get_or words v 0) x

-- words of successors, words of predecessors, and one of Odd's vertices
abbrev pub small_edges : ℕ
small_edges = 2 * word_bits + 1
