-- The words of a certificate, 3n for a game of n vertices: the place of each vertex in an order; the vertex at each place; and for each place
-- the last place of its longest run. A place is over an earlier one if its priority is higher, or the same where that is the winner's; the
-- run of a place is the place itself and the places after it, as far as all are over it.
use Rattle.std.specs.Prelude.{◌≡◌, Bool, not, List, [], ◌∷◌, ◌++◌, ℕ, ◌+◌, ◌-◌, ◌*◌, ◌%◌, ◌<◌, eqb, ltb, leb, length, get_or}
use Rattle.theory.specs.Logic.Bools.{◌&◌, ◌or◌}
use Rattle.theory.specs.Logic.Range.{first}
use Rattle.table.specs.Table.{vertex_count, table_edges, priority_at}
use Rattle.table.specs.Flags.{at_least}
use Rattle.table.specs.Answers.{Row, row, Answer, judge}
use Rattle.large_table.specs.Reading.{large_rows}
use Rattle.large_table.specs.Words.{source_of, target_of}
use Rattle.large_moves.specs.Moves.{winner_at, keeps_edge, move_rows}

abbrev pub place_at : List ℕ → ℕ → ℕ
place_at c v = get_or c v 0

abbrev pub vertex_at : List ℕ → ℕ → ℕ → ℕ
vertex_at c n i = get_or c (n + i) 0

abbrev pub end_at : List ℕ → ℕ → ℕ → ℕ
end_at c n i = get_or c (2 * n + i) 0

-- ---- tests

-- another vertex stands at the place of v
unfoldable pub is_misplaced : List ℕ → ℕ → ℕ → Bool
is_misplaced c n v = not (eqb (vertex_at c n (place_at c v)) v)

-- priority q is over p
unfoldable pub is_over : ℕ → ℕ → ℕ → Bool
is_over winner p q = ltb p q or (eqb p q & eqb (p % 2) winner)

-- place j is over place i
unfoldable pub place_over : List ℕ → List ℕ → List ℕ → ℕ → ℕ → ℕ → Bool
place_over g s c n i j = is_over (winner_at s (vertex_at c n i)) (priority_at g (vertex_at c n i)) (priority_at g (vertex_at c n j))

-- the first place from j on that isn't over place i, n where there is none
unfoldable pub run_stop : List ℕ → List ℕ → List ℕ → ℕ → ℕ → ℕ → ℕ
run_stop g s c n i j = first (λ x. not (place_over g s c n i x)) j n

-- the run of place i doesn't end where the certificate says
unfoldable pub run_fails : List ℕ → List ℕ → List ℕ → ℕ → ℕ → Bool
run_fails g s c n i = not (eqb (end_at c n i + 1) (run_stop g s c n i (i + 1)))

-- place number k from the last one down
abbrev pub from_last : ℕ → ℕ → ℕ
from_last n k = n - 1 - k

-- An edge from priority p to q and from place a to b, where the run of a ends at e: it goes beyond the run, or it doesn't go down from a
-- priority of the loser's to one no lower.
unfoldable pub climbs_by : ℕ → ℕ → ℕ → ℕ → ℕ → ℕ → Bool
climbs_by winner p q a b e = ltb e b or (leb a b & (not (eqb (p % 2) winner) & leb p q))

-- edge j does so and is kept
unfoldable pub edge_climbs : List ℕ → List ℕ → List ℕ → ℕ → ℕ → ℕ → Bool
edge_climbs g s c n m j =
    climbs_by (winner_at s (source_of g n j)) (priority_at g (source_of g n j)) (priority_at g (target_of g n m j))
    (place_at c (source_of g n j)) (place_at c (target_of g n m j)) (end_at c n (place_at c (source_of g n j)))
    & keeps_edge g s n (source_of g n j) j

-- ---- the table of refusals

unfoldable pub first_beyond : List ℕ → List ℕ → ℕ
first_beyond g c = first (at_least c (vertex_count g)) 0 (3 * vertex_count g)

unfoldable pub first_misplaced : List ℕ → List ℕ → ℕ
first_misplaced g c = first (is_misplaced c (vertex_count g)) 0 (vertex_count g)

-- from the last place down, so that the runs of later places are known to be right
unfoldable pub first_bad_run : List ℕ → List ℕ → List ℕ → ℕ
first_bad_run g s c = first (λ k. run_fails g s c (vertex_count g) (from_last (vertex_count g) k)) 0 (vertex_count g)

unfoldable pub first_climb : List ℕ → List ℕ → List ℕ → ℕ
first_climb g s c = first (edge_climbs g s c (vertex_count g) (table_edges g)) 0 (table_edges g)

unfoldable pub place_rows : List ℕ → List ℕ → List ℕ → List Row
place_rows g s c =
    row 85 (not (eqb (length c) (3 * vertex_count g))) (length c)
    ∷ row 86 (ltb (first_beyond g c) (3 * vertex_count g)) (first_beyond g c)
    ∷ row 87 (ltb (first_misplaced g c) (vertex_count g)) (first_misplaced g c)
    ∷ row 88 (ltb (first_bad_run g s c) (vertex_count g)) (from_last (vertex_count g) (first_bad_run g s c))
    ∷ row 89 (ltb (first_climb g s c) (table_edges g)) (first_climb g s c)
    ∷ []

-- the whole call: the reader's rows, the solution's and the certificate's
unfoldable pub solution_answer : List ℕ → List ℕ → List ℕ → Answer
solution_answer g s c = judge (large_rows g ++ (move_rows g s ++ place_rows g s c)) []

-- ---- what the tests assume

pub record Placed (c : List ℕ) (n : ℕ) : Type 0 where
  pub size : length c ≡ 3 * n
  pub words : (k : ℕ) → k < 3 * n → get_or c k 0 < n
