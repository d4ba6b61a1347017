-- The table that a conversion writes: change request 6, games where the highest priority decides.
use Rattle.std.specs.Prelude.{List, ◌∷◌, ℕ, ◌+◌, ◌-◌, ◌%◌}
use Rattle.theory.specs.Logic.Range.{tabulate}
use Rattle.table.specs.Table.{vertex_count, table_edges, priority_at}
use Rattle.table.specs.Answers.{written}
use Rattle.table.specs.Highest.{highest_of}

-- the highest priority
abbrev pub highest : List ℕ → ℕ
highest g = highest_of (vertex_count g) (priority_at g)

-- the smallest even number not below q
unfoldable pub even_from : ℕ → ℕ
even_from q = q + q % 2

-- "M the smallest even number not below the highest priority"
abbrev pub even_above : List ℕ → ℕ
even_above g = even_from (highest g)

-- "each priority q becomes M − q"
abbrev pub lowered : List ℕ → ℕ → ℕ
lowered g v = even_above g - priority_at g v

-- sizes and new priorities, and the table's own words beyond them: "owners and edge words are copied"
unfoldable pub lowest_table : List ℕ → List ℕ
lowest_table g = written (vertex_count g ∷ table_edges g ∷ tabulate (vertex_count g) (lowered g)) g
