-- A relation, as it is written into a buffer of marks.
use Rattle.std.specs.Prelude.{◌≡◌, Bool, cond, List, ℕ, ◌+◌, ◌*◌, ◌/◌, ◌%◌, ◌^◌, ◌≤◌, ◌<◌, eqb, length, get_or}
use Rattle.std.specs.Int.Bits.{bit_or}
use Rattle.theory.specs.Logic.Range.{tabulate}
use Rattle.theory.specs.Order.Passes.{Rel}
use Rattle.table.specs.Answers.{written}
use Rattle.words.specs.Word.{digit}
use Rattle.marks.specs.Marks.{bytes_for, marks_length, bytes}

-- the byte of mark `at` as far as it is written: a byte begins as 0
unfoldable pub begun_byte : List ℕ → ℕ → ℕ
begun_byte b at = cond (eqb (at % 8) 0) 0 (get_or b (at / 8) 0)

-- the same with the first `count` bits of a word from mark `at` on
unfoldable pub next_byte : List ℕ → ℕ → ℕ → ℕ → ℕ
next_byte b at word count = bit_or (begun_byte b at) (word % 2 ^ count * 2 ^ (at % 8))

-- what held the marks before number `at` now holds `count` more, the first bits of the word
abbrev pub BitsWritten : ℕ → ℕ → ℕ → List ℕ → List ℕ → Type 0
BitsWritten word at count old new =
    (f : ℕ → Bool) (base : List ℕ) → bytes_for (at + count) ≤ length base → ((k : ℕ) → k < count → f (at + k) ≡ digit word k)
    → old ≡ written (bytes (tabulate at f)) base → new ≡ written (bytes (tabulate (at + count) f)) base

-- the mark of pair i of n vertices
unfoldable pub row_mark : ℕ → Rel → ℕ → Bool
row_mark n rel i = rel (i / n) (i % n)

-- what held the marks before (v, 0) now holds those before (v, w)
abbrev pub RowWritten : ℕ → Rel → ℕ → ℕ → List ℕ → List ℕ → Type 0
RowWritten n rel v w old new =
    (base : List ℕ) → marks_length n ≤ length base → old ≡ written (bytes (tabulate (v * n) (row_mark n rel))) base
    → new ≡ written (bytes (tabulate (v * n + w) (row_mark n rel))) base

-- all marks are written
abbrev pub RowsWritten : ℕ → Rel → List ℕ → List ℕ → Type 0
RowsWritten n rel old new = new ≡ written (bytes (tabulate (n * n) (row_mark n rel))) old

-- the first `count` bytes are those of another buffer
abbrev pub Copied : ℕ → List ℕ → List ℕ → List ℕ → Type 0
Copied count from old new = new ≡ written (tabulate count (λ i. get_or from i 0)) old
