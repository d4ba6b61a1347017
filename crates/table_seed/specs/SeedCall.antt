-- The seed call: change request 3, with its table of refusals.
use Rattle.std.specs.Prelude.{◌≡◌, ℕ, ◌*◌, Bool, List, [], ◌∷◌, nat_eq, nat_lt}
use Rattle.theory.specs.Logic.Bools.{◌or◌}
use Rattle.table.specs.Limits.{vertex_limit, edge_limit}
use Rattle.table.specs.Table.{table_length}
use Rattle.table.specs.Answers.{Row, row, memory_row, Answer, judge, after}
use Rattle.table_seed.specs.SeedTable.{seed_table}

-- "a degree d from 1 to 16 and a priority count c from 1 to 65,535"
abbrev pub degree_limit : ℕ
degree_limit = 16

abbrev pub priority_limit : ℕ
priority_limit = 65535

-- not 1 to limit
unfoldable pub outside : ℕ → ℕ → Bool
outside x limit = nat_eq x 0 or nat_lt limit x

-- 31's condition: n not 1 to 512, "d or c out of range, or n × d above 4,096"
unfoldable pub unfit : ℕ → ℕ → ℕ → Bool
unfit n d c = outside n vertex_limit or (outside d degree_limit or (outside c priority_limit or nat_lt edge_limit (n * d)))

-- 31, 32
unfoldable pub seed_rows : ℕ → ℕ → ℕ → List ℕ → List Row
seed_rows n d c output = row 31 (unfit n d c) 0 ∷ memory_row 32 (table_length n (n * d)) output ∷ []

-- accepted with n and m
unfoldable pub seed_answer : ℕ → ℕ → ℕ → List ℕ → Answer
seed_answer n d c output = judge (seed_rows n d c output) (n ∷ n * d ∷ [])

-- The promise: the verdict, and every lent word.
pub record SeedCall (s n d c : ℕ) (output : List ℕ) (answer : Answer) (output' : List ℕ) : Type 0 where
  pub verdict : answer ≡ seed_answer n d c output
  pub output_after : output' ≡ after (seed_rows n d c output) (seed_table s n d c) output
