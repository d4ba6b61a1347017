-- Laws of the search for a failing pair: one step, the end of a row and of all rows, and a hit.
use Rattle.std.specs.Prelude.{◌≡◌, Bool, false, List, ℕ, ◌+◌, ◌*◌, ◌/◌, ◌%◌, ◌≤◌, ◌<◌}
use Rattle.std.proofs.Math.Path.{ap}
use Rattle.std.proofs.Common.{◌∙◌, arith, zero-mul, add_assoc}
use Rattle.std.proofs.Math.Bool.{So}
use Rattle.std.proofs.Math.Nat.{add-mul, mul-le-mul_right}
use Rattle.std.proofs.Math.Arith.{digits_lt, digits_div, digits_mod}
use Rattle.theory.specs.Logic.Range.{first}
use Rattle.theory.proofs.Logic.RangeLaws.{first_step, first_hit, first_end_lem}
use Rattle.theory.specs.Order.Passes.{Rel}
use Rattle.theory.specs.Games.Game.{Game}
use Rattle.table.specs.Table.{vertex_count, pair_count}
use Rattle.order_acceptor.specs.RelationCall.{fails, first_failing}
use Rattle.order_acceptor.specs.RowSearch.{failing_from}

module _ (asked : Game → Rel → Rel) (g marks : List ℕ) where
  -- pair i fails
  abbrev fails_at : ℕ → Bool
  fails_at i = fails asked g marks (i / vertex_count g) (i % vertex_count g)

  pub failing_start : first_failing asked g marks ≡ failing_from asked g marks 0 0
  unfolding first_failing failing_from
  failing_start = rw (zero-mul (vertex_count g))

  module _ (v w : ℕ) where
    fails_at_lem : w < vertex_count g → fails_at (v * vertex_count g + w) ≡ fails asked g marks v w
    fails_at_lem h = rw (digits_div v h, digits_mod v h)

    pub failing_step : v < vertex_count g → w < vertex_count g → fails asked g marks v w ≡ false → failing_from asked g marks v w ≡ failing_from asked g marks v (w + 1)
    unfolding failing_from
    failing_step hv hw f =
        first_step fails_at (v * vertex_count g + w) (pair_count g) (digits_lt hv hw) (fails_at_lem hw ∙ f)
        ∙ ap (λ (k : ℕ). first fails_at k (pair_count g)) (add_assoc (v * vertex_count g) w 1)

    pub failing_hit : v < vertex_count g → w < vertex_count g → So (fails asked g marks v w) → failing_from asked g marks v w ≡ v * vertex_count g + w
    unfolding failing_from
    failing_hit hv hw t = first_hit fails_at (v * vertex_count g + w) (pair_count g) (digits_lt hv hw) (fails_at_lem hw ∙ t)

    -- the end of a row, and of the last
    pub failing_row : w ≡ vertex_count g → failing_from asked g marks v w ≡ failing_from asked g marks (v + 1) 0
    unfolding failing_from
    failing_row e = ap (λ (k : ℕ). first fails_at k (pair_count g)) (omega (arith, add-mul v 1 (vertex_count g)))

    pub failing_end : vertex_count g ≤ v → failing_from asked g marks v w ≡ v * vertex_count g + w
    unfolding failing_from
    failing_end h = first_end_lem fails_at (v * vertex_count g + w) (pair_count g) (omega (arith, mul-le-mul_right (vertex_count g) h))
