-- Games that agree on their vertices. What a record says of numbers that are no vertices means nothing.
use Rattle.std.specs.Prelude.{◌≡◌, ℕ, ◌<◌}
use Rattle.theory.specs.Games.Game.{Game}

-- They agree but for the priorities: a vertex of priority q in G has priority f q in K, and unequal ones stay unequal.
pub record AgreeBy (f : ℕ → ℕ) (G K : Game) : Type 0 where
  pub size : G.n ≡ K.n
  pub priority : (v : ℕ) → v < G.n → f (G.priority v) ≡ K.priority v
  pub apart : (v w : ℕ) → v < G.n → w < G.n → f (G.priority v) ≡ f (G.priority w) → G.priority v ≡ G.priority w
  pub owner : (v : ℕ) → v < G.n → G.owner v ≡ K.owner v
  pub edge : (v w : ℕ) → v < G.n → w < G.n → G.edge v w ≡ K.edge v w

-- they agree in all
abbrev pub Agree : Game → Game → Type 0
Agree = AgreeBy (λ q. q)
