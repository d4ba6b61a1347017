-- The seed call's table of refusals in terms of logic, and what an accepted call was given.
use Rattle.std.specs.Prelude.{ℕ, ◌*◌, ◌<◌, ◌≤◌, ◌⊎◌, List, [], ◌∷◌, length}
use Rattle.table.specs.Limits.{vertex_limit, edge_limit}
use Rattle.table.specs.Table.{table_length}
use Rattle.table.specs.Rules.{Rule, placed, memory_rule}
use Rattle.table_seed.specs.SeedCall.{degree_limit, priority_limit}

-- 1 to limit
pub record Within (x limit : ℕ) : Type 0 where
  pub some : 1 ≤ x
  pub few : x ≤ limit

-- 31, 32
abbrev pub seed_rules : ℕ → ℕ → ℕ → List ℕ → List Rule
seed_rules n d c output =
    placed 31 ((¬ Within n vertex_limit) ⊎ ((¬ Within d degree_limit) ⊎ ((¬ Within c priority_limit) ⊎ (edge_limit < n * d)))) 0
    ∷ memory_rule 32 (table_length n (n * d)) output
    ∷ []

pub record Fit (n d c : ℕ) : Type 0 where
  pub vertices : Within n vertex_limit
  pub degree : Within d degree_limit
  pub priorities : Within c priority_limit
  pub edges : n * d ≤ edge_limit

pub record SeedFits (n d c : ℕ) (output : List ℕ) : Type 0 where
  pub numbers : Fit n d c
  pub output_fits : table_length n (n * d) ≤ length output
