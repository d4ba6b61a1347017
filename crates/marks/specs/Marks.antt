-- Marks in memory: document 02, "Mark number i = v × n + w is bit i mod 8 of byte i div 8, bit 0 lowest, and unused bits of the last byte
-- are 0". How a mark stands in a buffer, and how many bytes the marks of n vertices need, is said here alone.
use Rattle.std.specs.Prelude.{◌≡◌, Bool, false, List, ℕ, ◌+◌, ◌*◌, ◌/◌, ◌%◌, ◌≤◌, ◌<◌, length, get_or}
use Rattle.std.proofs.Math.Bool.{So}
use Rattle.theory.specs.Logic.Range.{any_from, tabulate}
use Rattle.theory.specs.Order.Passes.{Marks, marked, Rel, rel_of}
use Rattle.words.specs.Word.{digit, number}
use Rattle.table.specs.Limits.{pair_limit}

-- how many bytes hold N marks, and the marks of n vertices
abbrev pub bytes_for : ℕ → ℕ
bytes_for N = (N + 7) / 8

abbrev pub marks_length : ℕ → ℕ
marks_length n = bytes_for (n * n)

-- mark i is in the buffer
abbrev pub InMarks : List ℕ → ℕ → Type 0
InMarks b i = (i < pair_limit) × (i / 8 < length b)

-- mark i of a list of bytes
unfoldable pub is_mark : List ℕ → ℕ → Bool
is_mark b i = digit (get_or b (i / 8) 0) (i % 8)

-- byte j of marks, and all their bytes
unfoldable pub byte_of : Marks → ℕ → ℕ
byte_of m j = number 8 (λ k. marked m (j * 8 + k))

unfoldable pub bytes : Marks → List ℕ
bytes m = tabulate (bytes_for (length m)) (byte_of m)

-- the relation between n vertices that is marked
unfoldable pub relation : ℕ → List ℕ → Rel
relation n b = rel_of n (is_mark b)

-- the pair is in the relation: its mark is set
abbrev pub Marked : ℕ → List ℕ → ℕ → ℕ → Type 0
Marked n b v w = So (is_mark b (v * n + w))

-- after N marks an unused bit of the last byte is set
unfoldable pub has_unused : List ℕ → ℕ → Bool
has_unused b N = any_from N (bytes_for N * 8) (is_mark b)

-- none is
abbrev pub Clear : List ℕ → ℕ → Type 0
Clear b N = (i : ℕ) → N ≤ i → i < bytes_for N * 8 → is_mark b i ≡ false
