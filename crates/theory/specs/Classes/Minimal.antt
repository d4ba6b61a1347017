-- The smallest game that keeps every vertex: document 02, CR 11. Another game has any number of vertices, and need not be total.
use Rattle.std.specs.Prelude.{Bool, ℕ, ◌≤◌, ◌<◌}
use Rattle.theory.specs.Logic.Bools.{◌&◌}
use Rattle.theory.specs.Logic.Range.{all_below, any_below}
use Rattle.theory.specs.Games.Game.{even, Game, edge_count}
use Rattle.theory.specs.Order.Simulation.{Below}
use Rattle.theory.specs.Order.Order.{below}

-- v of G and x of H are below each other, by direct simulation between the two games
pub record Equivalent (G H : Game) (v x : ℕ) : Type 1 where
  pub up : Below even G H v x
  pub down : Below even H G x v

-- "each vertex of the accepted game has a vertex that is below it and that it is below": those of G, in H
abbrev pub Represents : Game → Game → Type 1
Represents H G = (v : ℕ) → v < G.n → (x : ℕ) × (x < H.n) × Equivalent G H v x

-- the same, computed (`represents_in`, `represents_out`)
unfoldable pub represents : Game → Game → Bool
represents H G = all_below G.n (λ v. any_below H.n (λ x. below even G H v x & below even H G x v))

-- H has at least n vertices and at least e different edges
pub record AtLeast (n e : ℕ) (H : Game) : Type 0 where
  pub vertices : n ≤ H.n
  pub edges : e ≤ edge_count H

-- K represents g, and every game that does is at least as large
pub record Smallest (g K : Game) : Type 1 where
  pub itself : Represents K g
  pub least : (H : Game) → Represents H g → AtLeast K.n (edge_count K) H
