-- Plays, strategies and who wins: document 004, section 2.1, whose words the comments quote.
use Rattle.std.specs.Prelude.{◌≡◌, Bool, List, [], ◌∷◌, ℕ, zero, suc, ◌≤◌, ◌<◌}
use Rattle.std.proofs.Math.Bool.{So}
use Rattle.theory.specs.Games.Game.{Player, parity, Game, own, Succ}

-- ---- plays

-- "A play π in a parity game is an infinite path .. through the game graph": π t is the vertex at time t
pub record Play (G : Game) (π : ℕ → ℕ) : Type 0 where
  pub inside : (t : ℕ) → π t < G.n
  pub along : (t : ℕ) → So (G.edge (π t) (π (suc t)))

-- q is one of the priorities "which occur infinitely often", where c t is the priority at time t: there is no time from which on it isn't seen
abbrev pub InfinitelyOften : (ℕ → ℕ) → ℕ → Type 0
InfinitelyOften c q = (s : ℕ) → ((t : ℕ) → s ≤ t → c t ≡ q → ⊥) → ⊥

-- q is "the lowest value in Inf(π)"
pub record LowestForEver (c : ℕ → ℕ) (q : ℕ) : Type 0 where
  pub often : InfinitelyOften c q
  pub lowest : (r : ℕ) → InfinitelyOften c r → q ≤ r

-- "Play π is won by player Even if and only if the lowest value in Inf(π) is even. Otherwise, player Odd wins."
abbrev pub WonPlay : Player → Game → (ℕ → ℕ) → Type 0
WonPlay a G π = (q : ℕ) → LowestForEver (λ t. G.priority (π t)) q → So (parity a q)

-- ---- strategies

-- "decides for vertices owned by P the vertex the token is played to based on the history of the vertices that has been visited":
-- h are the vertices before, the latest first, and v is the token's
pub record Strategy (a : Player) (G : Game) : Type 0 where
  pub move : List ℕ → ℕ → ℕ
  pub legal : (h : List ℕ) (v : ℕ) → v < G.n → So (own G a v) → Succ G v (move h v)

-- the vertices of a play before time t
unfoldable pub history : (ℕ → ℕ) → ℕ → List ℕ
history π zero = []
history π (suc t) = π t ∷ history π t

-- "consistent with a strategy": at the player's vertices the play goes where the strategy says, at the opponent's along any edge
abbrev pub Consistent : (a : Player) (G : Game) → Strategy a G → (ℕ → ℕ) → Type 0
Consistent a G ρ π = (t : ℕ) → So (own G a (π t)) → π (suc t) ≡ ρ.move (history π t) (π t)

-- "winning from a vertex v if and only if all consistent plays from v are winning for player P"
abbrev pub WinsFrom : (a : Player) (G : Game) → Strategy a G → ℕ → Type 0
WinsFrom a G ρ v = (π : ℕ → ℕ) → Play G π → π 0 ≡ v → Consistent a G ρ π → WonPlay a G π

-- "a winning strategy exists"
abbrev pub WinningStrategy : Player → Game → ℕ → Type 0
WinningStrategy a G v = (ρ : Strategy a G) × WinsFrom a G ρ v

-- ---- plays along a plan

-- at each time there is a position at the play's vertex, linked to the next one; which of several links is taken is left free
pub record AlongPlan (at : ℕ → ℕ) (link : ℕ → ℕ → Bool) (π : ℕ → ℕ) : Type 0 where
  pub position : ℕ → ℕ
  pub over : (t : ℕ) → at (position t) ≡ π t
  pub linked : (t : ℕ) → So (link (position t) (position (suc t)))
