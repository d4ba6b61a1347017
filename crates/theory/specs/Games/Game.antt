-- Players and parity games. Documents 004 and 000: the lowest priority seen for ever decides, and even favours Even.
use Rattle.std.specs.Prelude.{Bool, true, false, not, ℕ, ◌*◌, ◌/◌, ◌%◌, ◌<◌, eqb}
use Rattle.std.proofs.Math.Bool.{So}
use Rattle.theory.specs.Logic.Range.{all_below, any_below, count}

pub data Player : Type 0 where
  even odd : Player

unfoldable pub other : Player → Player
other even = odd
other odd = even

-- the two players are the same one
unfoldable pub same : Player → Player → Bool
same even even = true
same even odd = false
same odd even = false
same odd odd = true

-- a priority of the player's parity
unfoldable pub parity : Player → ℕ → Bool
parity even q = eqb (q % 2) 0
parity odd q = not (eqb (q % 2) 0)

-- Document 004, definition 2.1. Vertices are the numbers below n, and edges are a relation.
pub record Game : Type 0 where
  pub n : ℕ
  pub priority : ℕ → ℕ
  pub owner : ℕ → Player
  pub edge : ℕ → ℕ → Bool

-- the player moves at v
abbrev pub own : Game → Player → ℕ → Bool
own G a v = same a (G.owner v)

-- w is a successor of v: a vertex that an edge leads to. It goes by the size and the edges alone.
pub record Next (n : ℕ) (edge : ℕ → ℕ → Bool) (v w : ℕ) : Type 0 where
  pub inside : w < n
  pub along : So (edge v w)

abbrev pub Succ : Game → ℕ → ℕ → Type 0
Succ G = Next G.n G.edge

-- every vertex has a successor
abbrev pub Total : Game → Type 0
Total G = (v : ℕ) → v < G.n → (w : ℕ) × Succ G v w

-- the same, computed (`total_in`, `total_out`)
unfoldable pub is_total : Game → Bool
is_total G = all_below G.n (λ v. any_below G.n (G.edge v))

-- how many different edges there are
unfoldable pub edge_count : Game → ℕ
edge_count G = count (G.n * G.n) (λ i. G.edge (i / G.n) (i % G.n))
