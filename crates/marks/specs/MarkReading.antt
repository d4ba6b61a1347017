-- Marks as the bits of a word.
use Rattle.std.specs.Prelude.{◌≡◌, false, List, ℕ, ◌+◌, ◌≤◌, ◌<◌}
use Rattle.words.specs.Word.{digit}
use Rattle.marks.specs.Marks.{is_mark}

-- how many marks are read at once: those of seven bytes, since they may begin within one of eight
abbrev pub read_bits : ℕ
read_bits = 56

-- the first `count` bits of the word are the marks from number `at` on, and no other bit is set
abbrev pub BitsRead : List ℕ → ℕ → ℕ → ℕ → Type 0
BitsRead b at count word = ((k : ℕ) → k < count → digit word k ≡ is_mark b (at + k)) × ((k : ℕ) → count ≤ k → digit word k ≡ false)
