-- Passes over marks, for any start set and any test. Document 01, "The order": pass 0 marks the start set; each later pass unmarks,
-- together, all that fail the test under the marks before it; the passes stop after the first that unmarks nothing, which is counted,
-- and pass 0 isn't.
use Rattle.std.specs.Prelude.{Bool, false, List, ℕ, zero, suc, ◌*◌, ◌+◌, ◌/◌, ◌%◌, get_or}
use Rattle.theory.specs.Logic.Bools.{◌&◌, imp}
use Rattle.theory.specs.Logic.Range.{all_below, first, tabulate}

-- a mark for each number below N; the marks of a pass are kept as a list, so that they are computed once
abbrev pub Marks : Type 0
Marks = List Bool

abbrev pub marked : Marks → ℕ → Bool
marked m i = get_or m i false

-- what a test may look at: which numbers are marked
abbrev pub Test : Type 0
Test = (ℕ → Bool) → ℕ → Bool

-- the pass after m
unfoldable pub next_pass : ℕ → Test → Marks → Marks
next_pass N ok m = tabulate N (λ i. marked m i & ok (marked m) i)

-- the marks after pass k
unfoldable pub pass : ℕ → Test → (ℕ → Bool) → ℕ → Marks
pass N ok start zero = tabulate N start
pass N ok start (suc k) = next_pass N ok (pass N ok start k)

-- the pass after m unmarks nothing
unfoldable pub settled : ℕ → Test → Marks → Bool
settled N ok m = all_below N (λ i. imp (marked m i) (ok (marked m) i))

-- how many passes unmark something
unfoldable pub rounds : ℕ → Test → (ℕ → Bool) → ℕ
rounds N ok start = first (λ k. settled N ok (pass N ok start k)) 0 (suc N)

-- the pass count: those passes and the last one
unfoldable pub pass_count : ℕ → Test → (ℕ → Bool) → ℕ
pass_count N ok start = suc (rounds N ok start)

-- the marks that the passes leave
unfoldable pub final_marks : ℕ → Test → (ℕ → Bool) → Marks
final_marks N ok start = pass N ok start (rounds N ok start)

-- ---- pairs: (v, w), with w below n, is number v × n + w

-- a relation between numbers, as marks
abbrev pub Rel : Type 0
Rel = ℕ → ℕ → Bool

unfoldable pub rel_of : ℕ → (ℕ → Bool) → Rel
rel_of n m v w = m (v * n + w)

unfoldable pub pair_start : ℕ → Rel → ℕ → Bool
pair_start n start i = start (i / n) (i % n)

unfoldable pub pair_test : ℕ → (Rel → Rel) → Test
pair_test n test m i = test (rel_of n m) (i / n) (i % n)

-- the relation that the passes leave between the numbers below n₁ and those below n₂: the largest in `start` on which `test` holds
unfoldable pub largest : ℕ → ℕ → (Rel → Rel) → Rel → Rel
largest n₁ n₂ test start = rel_of n₂ (marked (final_marks (n₁ * n₂) (pair_test n₂ test) (pair_start n₂ start)))
