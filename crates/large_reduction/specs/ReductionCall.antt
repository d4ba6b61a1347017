-- A reduction of a game of any size: another game r, whose edges stand by ascending source, and the class of each vertex, a vertex of r. Its
-- table of refusals: the reader's rows of the game, the same of the reduced game with 90 added, 97 to 100 about the classes, and the
-- certificate's.
use Rattle.std.specs.Prelude.{Bool, not, List, [], ◌∷◌, ◌++◌, ℕ, ◌+◌, ◌*◌, eqb, ltb, length, get_or}
use Rattle.theory.specs.Logic.Bools.{◌&◌}
use Rattle.theory.specs.Logic.Range.{first}
use Rattle.table.specs.Table.{vertex_count, table_edges, priority_at}
use Rattle.table.specs.Flags.{at_least}
use Rattle.table.specs.Answers.{Row, row, Answer, judge}
use Rattle.large_table.specs.Reading.{large_rows}
use Rattle.large_images.specs.Images.{class_at, image_rows}

-- ---- tests

-- edge e of r, of k vertices, has a lower source than the edge before it
unfoldable pub edge_descends : List ℕ → ℕ → ℕ → Bool
edge_descends r k e = ltb 0 e & ltb (get_or r (2 + 2 * k + e) 0) (get_or r (1 + 2 * k + e) 0)

unfoldable pub priority_differs : List ℕ → List ℕ → List ℕ → ℕ → Bool
priority_differs g r l v = not (eqb (priority_at g v) (priority_at r (class_at l v)))

-- ---- the table of refusals

-- the reader's rows, for the reduced game
unfoldable pub shifted : List Row → List Row
shifted [] = []
shifted (x ∷ xs) = row (x.number + 90) x.condition x.place ∷ shifted xs

unfoldable pub first_descent : List ℕ → ℕ
first_descent r = first (edge_descends r (vertex_count r)) 0 (table_edges r)

unfoldable pub first_beyond : List ℕ → List ℕ → List ℕ → ℕ
first_beyond g r l = first (at_least l (vertex_count r)) 0 (vertex_count g)

unfoldable pub first_different : List ℕ → List ℕ → List ℕ → ℕ
first_different g r l = first (priority_differs g r l) 0 (vertex_count g)

unfoldable pub class_rows : List ℕ → List ℕ → List ℕ → List Row
class_rows g r l =
    row 97 (ltb (first_descent r) (table_edges r)) (first_descent r)
    ∷ row 98 (not (eqb (length l) (vertex_count g))) (length l)
    ∷ row 99 (ltb (first_beyond g r l) (vertex_count g)) (first_beyond g r l)
    ∷ row 100 (ltb (first_different g r l) (vertex_count g)) (first_different g r l)
    ∷ []

-- for games that were read
unfoldable pub merge_rows : List ℕ → List ℕ → List ℕ → List ℕ → List Row
merge_rows g r l c = class_rows g r l ++ image_rows g r l c

unfoldable pub reduction_answer : List ℕ → List ℕ → List ℕ → List ℕ → Answer
reduction_answer g r l c = judge (large_rows g ++ (shifted (large_rows r) ++ merge_rows g r l c)) []
