-- Verdicts: document 01, "Turned down for the input" and "Turned down for the state of the lent memory". A call has a table of
-- refusals, its rows in order; the first row whose condition holds is its refusal, and otherwise it is accepted with its counts.
use Rattle.std.specs.Prelude.{◌≡◌, Bool, false, cond, List, [], ◌∷◌, ◌++◌, ℕ, ltb, length, drop}

-- a row of the table of refusals
pub record Row : Type 0 where
  pub number : ℕ
  pub condition : Bool
  pub place : ℕ

abbrev pub row : ℕ → Bool → ℕ → Row
row k condition place = record { number = k; condition = condition; place = place }

-- lent memory shorter than needed, as 21 to 24; the place is the length needed
abbrev pub memory_row : ℕ → ℕ → List ℕ → Row
memory_row number needed memory = row number (ltb (length memory) needed) needed

-- what a verdict says: accepted with its counts, or refused with a number and a place
pub data Answer : Type 0 where
  accepted : List ℕ → Answer
  refused : ℕ → ℕ → Answer

unfoldable pub judge : List Row → List ℕ → Answer
judge [] counts = accepted counts
judge (r ∷ rs) counts = cond r.condition (refused r.number r.place) (judge rs counts)

-- no condition of these rows holds
abbrev pub Clean : List Row → Type 0
Clean [] = Unit
Clean (r ∷ rs) = (r.condition ≡ false) × Clean rs

-- ---- lent memory

-- the stated words, and old content beyond them
unfoldable pub written : List ℕ → List ℕ → List ℕ
written new old = new ++ drop (length new) old

-- A buffer after a call that writes it once these rows are passed: the stated words, or old content where one of their conditions holds.
-- A call that writes on acceptance alone has all its rows here.
unfoldable pub after : List Row → List ℕ → List ℕ → List ℕ
after [] new old = written new old
after (r ∷ rs) new old = cond r.condition old (after rs new old)
