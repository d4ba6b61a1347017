-- Direct simulation between two games: documents 01, "The order", and 004, definition 3.1. All is said for a player a; document 01's
-- definition is the one for Even, and Odd's is its converse (`simulation_dual`).
use Rattle.std.specs.Prelude.{◌≡◌, Bool, true, false, ℕ, ◌<◌}
use Rattle.theory.specs.Games.Game.{Player, even, Game, own, Succ}

-- The pair test, a row for each pair of owners: is v the player's, is w the player's. X and Y are their successors, H the relation.
unfoldable pub Moves {ℓ} : Bool → Bool → (ℕ → Type 0) → (ℕ → Type 0) → (ℕ → ℕ → Type ℓ) → Type ℓ
Moves true true X Y H = (v' : ℕ) → X v' → (w' : ℕ) × Y w' × H v' w'
Moves true false X Y H = (v' w' : ℕ) → X v' → Y w' → H v' w'
Moves false true X Y H = (v' : ℕ) × (w' : ℕ) × X v' × Y w' × H v' w'
Moves false false X Y H = (w' : ℕ) → Y w' → (v' : ℕ) × X v' × H v' w'

-- equal priorities, and the test of the two owners
pub record PassesTest (a : Player) (G₁ G₂ : Game) (H : ℕ → ℕ → Type 0) (v w : ℕ) : Type 0 where
  pub equal : G₁.priority v ≡ G₂.priority w
  pub moves : Moves (own G₁ a v) (own G₂ a w) (Succ G₁ v) (Succ G₂ w) H

-- each pair of vertices in H passes
abbrev pub Simulation : Player → Game → Game → (ℕ → ℕ → Type 0) → Type 0
Simulation a G₁ G₂ H = (v w : ℕ) → v < G₁.n → w < G₂.n → H v w → PassesTest a G₁ G₂ H v w

abbrev pub DirectSimulation : Game → Game → (ℕ → ℕ → Type 0) → Type 0
DirectSimulation = Simulation even

-- Some simulation holds (v, w). For Even: "v is below w". For either player: w is at least as good as v.
pub record Below (a : Player) (G₁ G₂ : Game) (v w : ℕ) : Type 1 where
  pub relation : ℕ → ℕ → Type 0
  pub simulation : Simulation a G₁ G₂ relation
  pub holds : relation v w

-- one relation after another, through a vertex of Y in between
abbrev pub Compose {ℓ} : (ℕ → Type 0) → (ℕ → ℕ → Type ℓ) → (ℕ → ℕ → Type ℓ) → ℕ → ℕ → Type ℓ
Compose Y H K v w = (u : ℕ) × Y u × H v u × K u w
