-- Merged vertices: a map from the vertices of G to those of K, the classes, that keeps priorities, moves and who moves. It says for one
-- vertex and its class what document 000, theorem 14, says of a game and its quotient: {(v, C), (C, v) | v in C} is a governed bisimulation.
use Rattle.std.specs.Prelude.{◌≡◌, ◌⊎◌, ℕ, ◌<◌}
use Rattle.theory.specs.Games.Game.{Game, Succ, Total}
use Rattle.theory.specs.Order.Governed.{GovernedBisimulation}

-- v has at most one successor
abbrev pub Single : Game → ℕ → Type 0
Single G v = (d e : ℕ) → Succ G v d → Succ G v e → d ≡ e

pub record Merged (G K : Game) (class : ℕ → ℕ) : Type 0 where
  pub inside : (v : ℕ) → v < G.n → class v < K.n
  pub priority : (v : ℕ) → v < G.n → G.priority v ≡ K.priority (class v)
  pub total : Total G
  -- each move of v has its image in K, and each move of v's class is the image of one of v
  pub forth : (v w : ℕ) → v < G.n → Succ G v w → Succ K (class v) (class w)
  pub back : (v d : ℕ) → v < G.n → Succ K (class v) d → (w : ℕ) × Succ G v w × (class w ≡ d)
  -- the class has v's owner, or no choice
  pub owner : (v : ℕ) → v < G.n → (G.owner v ≡ K.owner (class v)) ⊎ Single K (class v)

-- every class has a member
abbrev pub Onto : Game → Game → (ℕ → ℕ) → Type 0
Onto G K class = (c : ℕ) → c < K.n → (v : ℕ) × (v < G.n) × (class v ≡ c)

-- ---- the quotient by a governed bisimulation

-- vertices of one class
abbrev pub Alike : (ℕ → ℕ) → ℕ → ℕ → Type 0
Alike class v w = class v ≡ class w

-- Document 000, definition 19, for any governed bisimulation that is given by classes: a class has its members' priority and an edge wherever
-- a member has one. Its owner is a member's, or anyone where it has no choice (there document 000 gives it to Even).
pub record GovernedQuotient (G K : Game) (class : ℕ → ℕ) : Type 0 where
  pub total : Total G
  pub bisimulation : GovernedBisimulation G (Alike class)
  pub inside : (v : ℕ) → v < G.n → class v < K.n
  pub priority : (v : ℕ) → v < G.n → G.priority v ≡ K.priority (class v)
  pub owner : (c : ℕ) → c < K.n → (v : ℕ) × (v < G.n) × (class v ≡ c) × ((G.owner v ≡ K.owner c) ⊎ Single K c)
  pub edge_in : (v w : ℕ) → v < G.n → Succ G v w → Succ K (class v) (class w)
  pub edge_out : (c d : ℕ) → c < K.n → Succ K c d → (v : ℕ) × (w : ℕ) × (v < G.n) × Succ G v w × (class v ≡ c) × (class w ≡ d)
