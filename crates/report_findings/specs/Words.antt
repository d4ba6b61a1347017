-- Bytes as words: document 01, "low byte first (a last half word gets high byte 0 ..)".
use Rattle.std.specs.Prelude.{List, ℕ, ◌+◌, ◌*◌, ◌/◌, length, get_or}
use Rattle.theory.specs.Logic.Range.{tabulate}
use Rattle.table.specs.Limits.{table_limit}

-- document 02, "The report stops after 9,219 words": a word more than the longest table has
abbrev pub read_limit : ℕ
read_limit = table_limit + 1

-- word i; beyond the last byte is 0
unfoldable pub word_at : List ℕ → ℕ → ℕ
word_at bytes i = get_or bytes (2 * i) 0 + 256 * get_or bytes (2 * i + 1) 0

-- two bytes a word, and a half word counts
unfoldable pub words_in : List ℕ → ℕ
words_in bytes = (length bytes + 1) / 2

unfoldable pub words_of : List ℕ → List ℕ
words_of bytes = tabulate (words_in bytes) (word_at bytes)
