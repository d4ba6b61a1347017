-- An order of the vertices that certifies a solution, edge by edge. Kept edges go down in it, but for some that rise over nothing but higher
-- priorities (or equal ones that are the winner's).
use Rattle.std.specs.Prelude.{◌≡◌, ◌⊎◌, false, ℕ, ◌≤◌, ◌<◌}
use Rattle.std.proofs.Math.Bool.{So}
use Rattle.theory.specs.Order.Passes.{Rel}
use Rattle.theory.specs.Games.Game.{Player, parity, Game}

-- u's priority is above v's, or is the same and is v's winner's
abbrev pub Over : Game → (ℕ → Player) → ℕ → ℕ → Type 0
Over G win v u = (G.priority v < G.priority u) ⊎ ((G.priority v ≡ G.priority u) × So (parity (win v) (G.priority v)))

pub record Ordered (G : Game) (win : ℕ → Player) (kept : Rel) (place : ℕ → ℕ) : Type 0 where
  -- from a priority of the loser's to one no lower, an edge goes down
  pub falls : (v w : ℕ) → So (kept v w) → parity (win v) (G.priority v) ≡ false → G.priority v ≤ G.priority w → place w < place v
  -- where an edge goes up, all that it passes, and its target, are over its source
  pub rises : (v w : ℕ) → So (kept v w) → (u : ℕ) → u < G.n → place v < place u → place u ≤ place w → Over G win v u
