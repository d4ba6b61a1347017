-- Little brothers as the code finds them, by marks and by a row of targets: document 004, definition 5.1 and table 4. Theory's `dropped`
-- has the definition; no public promise cites these.
use Rattle.std.specs.Prelude.{Bool, true, false, not, List, ℕ, ◌+◌, ◌*◌, ◌≤◌, eqb, ltb, length}
use Rattle.theory.specs.Logic.Bools.{◌&◌}
use Rattle.theory.specs.Logic.Range.{any_below}
use Rattle.words.specs.Word.{word_bits}
use Rattle.words.specs.Words.{has}
use Rattle.table.specs.Limits.{vertex_limit}
use Rattle.marks.specs.Marks.{marks_length, relation}

-- the marks of n vertices are there
abbrev pub Marked : ℕ → List ℕ → Type 0
Marked n marks = (n ≤ vertex_limit) × (marks_length n ≤ length marks)

-- a row has a bit for each of n vertices
abbrev pub RowFits : ℕ → List ℕ → Type 0
RowFits n row = n ≤ word_bits * length row

-- x is another than d, and d is marked as below x
unfoldable pub below_other : ℕ → List ℕ → ℕ → ℕ → Bool
below_other n marks d x = not (eqb x d) & relation n marks d x

-- w + k is in the row, and d is below it, another
unfoldable pub beaten_at : ℕ → List ℕ → List ℕ → ℕ → ℕ → ℕ → Bool
beaten_at n marks row d w k = (ltb (w + k) n & below_other n marks d (w + k)) & has row (w + k)

-- d is below another one in the row
unfoldable pub beaten : ℕ → List ℕ → List ℕ → ℕ → Bool
beaten n marks row d = any_below n (λ e. has row e & below_other n marks d e)

-- x is dropped because of d, which is in the row: for Even d itself, where it is below another; for Odd all others in it that d is
-- below
unfoldable pub drops : Bool → ℕ → List ℕ → List ℕ → ℕ → ℕ → Bool
drops true n marks row d x = eqb d x & beaten n marks row d
drops false n marks row d x = has row x & below_other n marks d x

-- x is dropped because of one in the row
unfoldable pub dropped_by : Bool → ℕ → List ℕ → List ℕ → ℕ → Bool
dropped_by even n marks row x = any_below n (λ d. has row d & drops even n marks row d x)
