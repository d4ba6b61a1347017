-- The search for a failing pair, in row order.
use Rattle.std.specs.Prelude.{List, ℕ, ◌+◌, ◌*◌, ◌/◌, ◌%◌}
use Rattle.theory.specs.Logic.Range.{first}
use Rattle.theory.specs.Order.Passes.{Rel}
use Rattle.theory.specs.Games.Game.{Game}
use Rattle.table.specs.Table.{vertex_count, pair_count}
use Rattle.order_acceptor.specs.RelationCall.{fails}

-- from pair (v, w) on
unfoldable pub failing_from : (Game → Rel → Rel) → List ℕ → List ℕ → ℕ → ℕ → ℕ
failing_from asked g marks v w =
    first (λ i. fails asked g marks (i / vertex_count g) (i % vertex_count g)) (v * vertex_count g + w) (pair_count g)
