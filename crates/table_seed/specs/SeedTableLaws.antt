-- Laws of a seeded table: its words by place, and each fact that the reader asks of a table.
use Rattle.std.specs.Prelude.{◌≡◌, ℕ, ◌+◌, ◌*◌, ◌/◌, ◌<◌, ◌≤◌, [], ◌∷◌, length}
use Rattle.std.proofs.Math.Path.{refl}
use Rattle.std.proofs.Common.{◌∙◌, mod-lt, div-lt_iff_lt-mul, arith}
use Rattle.std.proofs.Math.Arith.{digits_lt, digits_div}
use Rattle.theory.specs.Logic.Range.{tabulate}
use Rattle.theory.proofs.Logic.ListLaws.{length_tabulate, get_d_tabulate}
use Rattle.table.specs.Table.{vertex_count, table_edges, priority_at, owner_at, source_at, target_at, table_length}
use Rattle.table.specs.ColumnsLaws.{Columns, length_columns, priority_column, owner_column, source_column, target_column}
use Rattle.table_seed.specs.Generator.{step, draw_of, state_after}
use Rattle.table_seed.specs.SeedTable.{drawn_priority, drawn_owner, drawn_target, seed_table}

module _ (s n d c : ℕ) where
  drawn_columns : Columns n (n * d) (tabulate n (drawn_priority s d c)) (tabulate n (drawn_owner s d)) (tabulate (n * d) (λ j. j / d)) (tabulate (n * d) (drawn_target s n d))
  drawn_columns = record {
    priorities = length_tabulate n (drawn_priority s d c);
    owners = length_tabulate n (drawn_owner s d);
    sources = length_tabulate (n * d) (λ j. j / d);
    targets = length_tabulate (n * d) (drawn_target s n d);
  }

  -- ---- words by place

  pub seed_vertices : vertex_count (seed_table s n d c) ≡ n
  unfolding seed_table
  seed_vertices = refl

  pub seed_edges : table_edges (seed_table s n d c) ≡ n * d
  unfolding seed_table
  seed_edges = refl

  pub length_seed_table : length (seed_table s n d c) ≡ table_length n (n * d)
  unfolding seed_table
  length_seed_table = length_columns drawn_columns

  pub seed_priority : (v : ℕ) → v < n → priority_at (seed_table s n d c) v ≡ drawn_priority s d c v
  unfolding seed_table
  seed_priority v h = priority_column drawn_columns v h ∙ get_d_tabulate n (drawn_priority s d c) 0 v h

  pub seed_owner : (v : ℕ) → v < n → owner_at (seed_table s n d c) v ≡ drawn_owner s d v
  unfolding seed_table
  seed_owner v h = owner_column drawn_columns v h ∙ get_d_tabulate n (drawn_owner s d) 0 v h

  pub seed_source : (j : ℕ) → j < n * d → source_at (seed_table s n d c) j ≡ j / d
  unfolding seed_table
  seed_source j h = source_column drawn_columns j h ∙ get_d_tabulate (n * d) (λ j. j / d) 0 j h

  pub seed_target : (j : ℕ) → j < n * d → target_at (seed_table s n d c) j ≡ drawn_target s n d j
  unfolding seed_table
  seed_target j h = target_column drawn_columns j h ∙ get_d_tabulate (n * d) (drawn_target s n d) 0 j h

  -- ---- what the reader asks

  pub seed_owners : (v : ℕ) → v < n → owner_at (seed_table s n d c) v ≤ 1
  seed_owners v h = omega (arith, seed_owner v h)

  module _ (some : 0 < n) (out : 0 < d) where
    pub seed_sources : (j : ℕ) → j < n * d → source_at (seed_table s n d c) j < n
    seed_sources j h = rw (seed_source j h) ((div-lt_iff_lt-mul out).1 h)

    pub seed_targets : (j : ℕ) → j < n * d → target_at (seed_table s n d c) j < n
    seed_targets j h = rw (seed_target j h) (mod-lt _ some)

    -- every vertex has an edge out: its first
    pub seed_total : (v : ℕ) → v < n → (j : ℕ) × (j < n * d) × (source_at (seed_table s n d c) j ≡ v)
    seed_total v h = let l = digits_lt h out in (v * d + 0, l, seed_source (v * d + 0) l ∙ digits_div v out)

-- ---- a table, computed: its draws are 15,521, 30,144, 12,383, then 48,621, 46,989, 7,682

pub seed_example : seed_table 2 2 1 10 ≡ 2 ∷ 2 ∷ 1 ∷ 1 ∷ 0 ∷ 1 ∷ 0 ∷ 1 ∷ 1 ∷ 0 ∷ []
unfolding seed_table tabulate draw_of state_after step
seed_example = refl
