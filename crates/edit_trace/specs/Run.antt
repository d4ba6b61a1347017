-- A run over the entries of a trace: change request 9, a fold of the edits' table functions that stops at the first refusal.
use Rattle.std.specs.Prelude.{cond, List, [], ◌∷◌, ◌++◌, ℕ, ◌+◌, ◌-◌, max, length}
use Rattle.theory.specs.Logic.Range.{tabulate}
use Rattle.table.specs.Table.{game_of}
use Rattle.table.specs.Answers.{Row}
use Rattle.edit_rules.specs.Edges.{edited, edit_rows}
use Rattle.edit_rules.specs.declared.Edit.{Edit}
use Rattle.edit_rules.specs.declared.Edit.TheVariants.{Arrival, Leaving}

-- the first where no condition of these rows holds, else the second
unfoldable pub passing : {A : Type 0} → List Row → A → A → A
passing [] a b = a
passing (r ∷ rs) a b = cond r.condition b (passing rs a b)

-- ---- an entry

-- "An entry makes its edge arrive if absent and leave if present."
unfoldable pub toggle : List ℕ → ℕ × ℕ → Edit
toggle g e = cond ((game_of g).edge e.0 e.1) Leaving Arrival

-- the table after it
abbrev pub toggled : List ℕ → ℕ × ℕ → List ℕ
toggled g e = edited (toggle g e) g e.0 e.1

-- its rows, in a buffer of this size: 37 for an end not below n; present, 38; absent, 39
abbrev pub entry_rows : List ℕ → ℕ → ℕ × ℕ → List Row
entry_rows g size e = edit_rows (toggle g e) g size e.0 e.1

-- ---- a run

-- how a run ends: the table, how many words the longest table reached has, the entries done, and the rows of the entry that was refused
pub record Run : Type 0 where
  pub table : List ℕ
  pub longest : ℕ
  pub done : ℕ
  pub stop : List Row

-- "At the first refused entry the run ends with that refusal and the number of entries done"
unfoldable pub run_from : ℕ → List (ℕ × ℕ) → List ℕ → ℕ → ℕ → Run
run_from size [] g longest done = record { table = g; longest = longest; done = done; stop = [] }
run_from size (e ∷ es) g longest done =
    let new = toggled g e in
    passing (entry_rows g size e) (run_from size es new (max longest (length new)) (done + 1))
    (record { table = g; longest = longest; done = done; stop = entry_rows g size e })

-- from a table that begins a buffer of this size
abbrev pub run_over : ℕ → List (ℕ × ℕ) → List ℕ → Run
run_over size es g = run_from size es g (length g) 0

-- a table, and zeros to the end of the longest one
unfoldable pub padded : List ℕ → ℕ → List ℕ
padded g longest = g ++ tabulate (longest - length g) (λ i. 0)
