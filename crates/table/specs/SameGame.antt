-- Tables of one game: the same vertices, priorities and owners, and the same edges as a set. They may differ in repeats and in the
-- sequence of their edges.
use Rattle.std.specs.Prelude.{◌≡◌, ◌↔◌, List, ℕ, ◌<◌}
use Rattle.table.specs.Table.{vertex_count, priority_at, owner_at, Listed}

pub record SameGame (g h : List ℕ) : Type 0 where
  pub vertices : vertex_count g ≡ vertex_count h
  pub priorities : (v : ℕ) → v < vertex_count g → priority_at g v ≡ priority_at h v
  pub owners : (v : ℕ) → v < vertex_count g → owner_at g v ≡ owner_at h v
  pub edges : (v w : ℕ) → ((j : ℕ) × Listed g v w j) ↔ ((j : ℕ) × Listed h v w j)
