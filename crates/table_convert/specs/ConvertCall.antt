-- The call that converts a table: change request 6, with its table of refusals.
use Rattle.std.specs.Prelude.{◌≡◌, Bool, List, [], ◌∷◌, ◌++◌, ℕ, ◌+◌, eqb, ltb, get_or}
use Rattle.theory.specs.Logic.Bools.{◌&◌}
use Rattle.theory.specs.Logic.Range.{first}
use Rattle.table.specs.Table.{vertex_count, table_edges, table_length}
use Rattle.table.specs.Answers.{Row, row, memory_row, Answer, judge, after}
use Rattle.table.specs.Reading.{game_rows}
use Rattle.table_convert.specs.LowestTable.{highest, lowest_table}

-- "the highest priority is 65,535 and some priority is 0, since 65,536 fits no word": word k is that priority
unfoldable pub oversize : List ℕ → ℕ → Bool
oversize g k = eqb (highest g) 65535 & eqb (get_or g k 0) 0

-- "place: word of the first priority 0"
unfoldable pub first_oversize : List ℕ → ℕ
first_oversize g = first (oversize g) 2 (2 + vertex_count g)

-- 1 to 8, then 24, 36
unfoldable pub convert_rows : List ℕ → List ℕ → List Row
convert_rows game output =
    game_rows game
    ++ (memory_row 24 (table_length (vertex_count game) (table_edges game)) output
    ∷ row 36 (ltb (first_oversize game) (2 + vertex_count game)) (first_oversize game)
    ∷ [])

-- accepted with n and m
unfoldable pub convert_answer : List ℕ → List ℕ → Answer
convert_answer game output = judge (convert_rows game output) (vertex_count game ∷ table_edges game ∷ [])

-- The promise: the verdict, and every lent word.
pub record ConvertCall (game output : List ℕ) (answer : Answer) (output' : List ℕ) : Type 0 where
  pub verdict : answer ≡ convert_answer game output
  pub output_after : output' ≡ after (convert_rows game output) (lowest_table game) output
