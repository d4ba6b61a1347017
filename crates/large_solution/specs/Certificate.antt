-- The certificate of an order of the vertices, which `place` gives.
use Rattle.std.specs.Prelude.{Bool, not, cond, List, ℕ, ◌+◌, ◌-◌, ◌*◌, eqb, ltb}
use Rattle.theory.specs.Logic.Range.{first, tabulate}
use Rattle.table.specs.Table.{vertex_count, priority_at}
use Rattle.large_moves.specs.Moves.{winner_at}
use Rattle.large_solution.specs.Places.{is_over}

module _ (g s : List ℕ) (place : ℕ → ℕ) where
  -- the vertex at place i
  unfoldable pub vertex_of : ℕ → ℕ
  vertex_of i = first (λ v. eqb (place v) i) 0 (vertex_count g)

  -- place j is over place i
  unfoldable pub over_at : ℕ → ℕ → Bool
  over_at i j = is_over (winner_at s (vertex_of i)) (priority_at g (vertex_of i)) (priority_at g (vertex_of j))

  -- the last place of the longest run of place i
  unfoldable pub end_of : ℕ → ℕ
  end_of i = first (λ j. not (over_at i j)) (i + 1) (vertex_count g) - 1

  unfoldable pub certificate_word : ℕ → ℕ
  certificate_word k =
      cond (ltb k (vertex_count g)) (place k) (cond (ltb k (2 * vertex_count g)) (vertex_of (k - vertex_count g)) (end_of (k - 2 * vertex_count g)))

  unfoldable pub certificate_of : List ℕ
  certificate_of = tabulate (3 * vertex_count g) certificate_word
