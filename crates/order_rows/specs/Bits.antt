-- Rows of bits: sets of numbers below the limit of vertices, in words of 64 bits.
use Rattle.std.specs.Prelude.{Bool, List, ℕ, ◌+◌, ◌*◌, ◌/◌, ◌%◌, ◌≤◌, length, get_or}
use Rattle.words.specs.Word.{word_bits, digit}
use Rattle.words.specs.Words.{has}
use Rattle.table.specs.Limits.{vertex_limit}
use Rattle.order_sets.specs.Sets.{Is, PutIn, AddedIn, united_in, apart_in}

-- bits of a row, and its words
abbrev pub row_bits : ℕ
row_bits = vertex_limit

abbrev pub row_words : ℕ
row_words = row_bits / word_bits

-- the row holds what passes
abbrev pub RowIs : List ℕ → (ℕ → Bool) → Type 0
RowIs r p = Is row_bits (has r) p

-- ---- rows one after another

-- x is in row v
unfoldable pub cell : List ℕ → ℕ → ℕ → Bool
cell words v x = digit (get_or words (v * row_words + x / word_bits) 0) (x % word_bits)

-- row v is there
abbrev pub InRows : List ℕ → ℕ → Type 0
InRows words v = v * row_words + row_words ≤ length words

-- row v is now r, and every other row is as before
abbrev pub Put : List ℕ → List ℕ → ℕ → List ℕ → Type 0
Put old new v r = PutIn row_bits (cell old) (cell new) v (has r)

-- x is now in row v too, if b
abbrev pub Added : List ℕ → List ℕ → ℕ → ℕ → Bool → Type 0
Added old new v x b = AddedIn row_bits (cell old) (cell new) v x b

-- x is in one of the rows base + a, for a in `which`
abbrev pub united_rows : List ℕ → ℕ → List ℕ → ℕ → Bool
united_rows words base which x = united_in row_bits (cell words) base (has which) x

-- nothing is in row v and in x
abbrev pub apart : List ℕ → ℕ → List ℕ → Bool
apart words v x = apart_in row_bits (cell words) v (has x)
