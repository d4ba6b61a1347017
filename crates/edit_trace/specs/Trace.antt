-- A recorded list of edits: change request 9, "Editors save a session as a trace: its count (at most 4,096), then two parallel arrays of
-- sources and targets."
use Rattle.std.specs.Prelude.{not, List, [], ◌∷◌, ℕ, ◌+◌, ◌-◌, ◌*◌, eqb, ltb, length, get_or}
use Rattle.theory.specs.Logic.Bools.{◌&◌, ◌or◌, bit}
use Rattle.theory.specs.Logic.Range.{tabulate}
use Rattle.table.specs.Answers.{Row, row}

-- ---- its words

abbrev pub entry_limit : ℕ
entry_limit = 4096

abbrev pub entry_count : List ℕ → ℕ
entry_count trace = get_or trace 0 0

-- entry i, its source and its target
abbrev pub entry_at : List ℕ → ℕ → ℕ × ℕ
entry_at trace i = (get_or trace (1 + i) 0, get_or trace (1 + entry_count trace + i) 0)

unfoldable pub entries_in : List ℕ → List (ℕ × ℕ)
entries_in trace = tabulate (entry_count trace) (entry_at trace)

-- the entries from i on
abbrev pub entries_from : List ℕ → ℕ → List (ℕ × ℕ)
entries_from trace i = tabulate (entry_count trace - i) (λ k. entry_at trace (i + k))

-- how many of these entries are of the edge from v to w
unfoldable pub entries_of : ℕ → ℕ → List (ℕ × ℕ) → ℕ
entries_of v w [] = 0
entries_of v w (e ∷ es) = bit (eqb e.0 v & eqb e.1 w) + entries_of v w es

-- ---- its row

-- 40 for "a trace without words, of a length not 1 + 2 × count, or with a count above 4,096 (place 0)"
unfoldable pub trace_rows : List ℕ → List Row
trace_rows trace =
    row 40 ((eqb (length trace) 0 or not (eqb (length trace) (1 + 2 * entry_count trace))) or ltb entry_limit (entry_count trace)) 0 ∷ []
