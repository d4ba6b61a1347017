-- The relation acceptor: document 01, "It passes them exactly if the marked pairs form a direct simulation; else it names the first mark
-- in row order that fails", with its table of refusals. Rows and answer are for whatever is asked of a marked pair: the acceptor of governed
-- bisimulations asks more.
use Rattle.std.specs.Prelude.{Bool, true, false, not, List, [], ◌∷◌, ◌++◌, ℕ, ◌-◌, ◌/◌, ◌%◌, ltb}
use Rattle.theory.specs.Logic.Bools.{◌&◌}
use Rattle.theory.specs.Logic.Range.{first}
use Rattle.theory.specs.Order.Passes.{Rel}
use Rattle.theory.specs.Games.Game.{even, Game}
use Rattle.theory.specs.Order.Order.{equal_priority, test}
use Rattle.table.specs.Table.{vertex_count, pair_count, game_of}
use Rattle.table.specs.Answers.{Row, row, memory_row, Answer, judge}
use Rattle.table.specs.Reading.{game_rows}
use Rattle.marks.specs.Marks.{marks_length, relation, has_unused}

-- what is asked of a marked pair under the marks H: equal priorities and the test
unfoldable pub direct_pair : Game → Rel → Rel
direct_pair g H v w = equal_priority g g v w & test even g g H v w

-- in a governed bisimulation also that its reverse is marked
unfoldable pub governed_pair : Game → Rel → Rel
governed_pair g H v w = direct_pair g H v w & H w v

unfoldable pub pair_by : Bool → Game → Rel → Rel
pair_by false g = direct_pair g
pair_by true g = governed_pair g

-- the pair is marked, and fails what is asked
unfoldable pub fails : (Game → Rel → Rel) → List ℕ → List ℕ → ℕ → ℕ → Bool
fails asked g marks v w = relation (vertex_count g) marks v w & not (asked (game_of g) (relation (vertex_count g) marks) v w)

-- 10: a marked pair that fails, the first v × n + w
unfoldable pub first_failing : (Game → Rel → Rel) → List ℕ → List ℕ → ℕ
first_failing asked g marks = first (λ i. fails asked g marks (i / vertex_count g) (i % vertex_count g)) 0 (pair_count g)

-- 1 to 8, 21, 41, 10. 41, a set unused bit, names the last byte
unfoldable pub acceptor_rows : (Game → Rel → Rel) → List ℕ → List ℕ → List Row
acceptor_rows asked g marks =
    game_rows g
    ++ (
    memory_row 21 (marks_length (vertex_count g)) marks
    ∷ row 41 (has_unused marks (pair_count g)) (marks_length (vertex_count g) - 1)
    ∷ row 10 (ltb (first_failing asked g marks) (pair_count g)) (first_failing asked g marks)
    ∷ []
    )

-- accepted without counts
unfoldable pub acceptor_answer : (Game → Rel → Rel) → List ℕ → List ℕ → Answer
acceptor_answer asked g marks = judge (acceptor_rows asked g marks) []

abbrev pub relation_answer : List ℕ → List ℕ → Answer
relation_answer = acceptor_answer direct_pair
