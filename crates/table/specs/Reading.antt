-- The reader's table of refusals, 1 to 6 and 8. Parallel edges count as one, so 7 does not occur.
use Rattle.std.specs.Prelude.{Bool, not, List, [], ◌∷◌, ℕ, ◌+◌, ◌*◌, eqb, ltb, leb, length, get_or, Result, Ok, Err}
use Rattle.theory.specs.Logic.Bools.{◌or◌}
use Rattle.theory.specs.Logic.Range.{any_below, first}
use Rattle.theory.specs.Games.Game.{edge_count}
use Rattle.table.specs.Limits.{vertex_limit, edge_limit}
use Rattle.table.specs.Table.{vertex_count, table_edges, source_at, table_length, game_of}
use Rattle.table.specs.Answers.{Row, row, Answer, accepted, refused, judge}
use Rattle.table.specs.declared.Refusal.{Refusal}
use Rattle.table.specs.declared.Sizes.{Sizes}

-- vertex v has no edge out
unfoldable pub lacks_edge : List ℕ → ℕ → Bool
lacks_edge g v = not (any_below (table_edges g) (λ j. eqb (source_at g j) v))

-- 5: an owner above 1, its first word
unfoldable pub first_owner : List ℕ → ℕ
first_owner g = first (λ k. ltb 1 (get_or g k 0)) (2 + vertex_count g) (2 + 2 * vertex_count g)

-- 6: an edge end not below n, its first word
unfoldable pub first_end : List ℕ → ℕ
first_end g = first (λ k. leb (vertex_count g) (get_or g k 0)) (2 + 2 * vertex_count g) (table_length (vertex_count g) (table_edges g))

-- 8: the lowest vertex without an edge out
unfoldable pub first_lacking : List ℕ → ℕ
first_lacking g = first (lacks_edge g) 0 (vertex_count g)

-- Document 01's table, row by row: number, condition, place. Row 4 tests the length by `unfit`: a table has the length that its sizes ask;
-- one that begins a longer buffer has at least that.
unfoldable pub game_rows_by : (ℕ → ℕ → Bool) → List ℕ → List Row
game_rows_by unfit g =
    row 1 (ltb (length g) 2) (length g)
    ∷ row 2 (eqb (vertex_count g) 0 or ltb vertex_limit (vertex_count g)) 0
    ∷ row 3 (ltb edge_limit (table_edges g)) 1
    ∷ row 4 (unfit (length g) (table_length (vertex_count g) (table_edges g))) (length g)
    ∷ row 5 (ltb (first_owner g) (2 + 2 * vertex_count g)) (first_owner g)
    ∷ row 6 (ltb (first_end g) (table_length (vertex_count g) (table_edges g))) (first_end g)
    ∷ row 8 (ltb (first_lacking g) (vertex_count g)) (first_lacking g)
    ∷ []

abbrev pub game_rows : List ℕ → List Row
game_rows g = game_rows_by (λ size needed. not (eqb size needed)) g

-- the reader's answer: accepted with n, m and the number of different edges
unfoldable pub read_answer : List ℕ → Answer
read_answer g = judge (game_rows g) (vertex_count g ∷ table_edges g ∷ edge_count (game_of g) ∷ [])

-- the same without the number of different edges, as a call asks it that goes on with the table
unfoldable pub sizes_answer : List ℕ → Answer
sizes_answer g = judge (game_rows g) (vertex_count g ∷ table_edges g ∷ [])

-- what the cases of the reader's verdict say
abbrev pub reading_answer : Result Sizes Refusal → Answer
reading_answer (Ok c) = accepted (c.vertices ∷ c.edges ∷ c.different ∷ [])
reading_answer (Err f) = refused f.number f.place
