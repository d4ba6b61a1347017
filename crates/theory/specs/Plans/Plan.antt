-- Plans: document 01's term for a finite-memory strategy given as a graph of positions and links.
use Rattle.std.specs.Prelude.{◌≡◌, Bool, false, List, [], ◌∷◌, ℕ, ◌≤◌, ◌<◌, min, eqb, length, get_or}
use Rattle.std.proofs.Math.Bool.{So}
use Rattle.theory.specs.Logic.Bools.{◌&◌, ◌or◌}
use Rattle.theory.specs.Games.Game.{Player, parity, Game, own, Succ, edge_count}

-- p positions, each with its vertex, and l links between positions; no limit on either
pub record Plan : Type 0 where
  pub vertices : List ℕ
  pub links : List (ℕ × ℕ)

unfoldable pub linked : List (ℕ × ℕ) → ℕ → ℕ → Bool
linked [] i j = false
linked (l ∷ ls) i j = (eqb l.0 i & eqb l.1 j) or linked ls i j

-- a walk of one link or more from i to j, with the positions between them
abbrev pub Walk : (ℕ → ℕ → Bool) → ℕ → List ℕ → ℕ → Type 0
Walk link i [] j = So (link i j)
Walk link i (k ∷ ks) j = So (link i k) × Walk link k ks j

-- what a walk from i over ks sees, joined by op: with `min`, its lowest priority. A closed walk ends where it begins.
unfoldable pub seen : (ℕ → ℕ → ℕ) → (ℕ → ℕ) → ℕ → List ℕ → ℕ
seen op q i [] = q i
seen op q i (k ∷ ks) = op (q i) (seen op q k ks)

-- Document 01, "Plans", over any positions `at` 0 .. len - 1 and links. op is `min`: the lowest priority decides.
pub record Winning (op : ℕ → ℕ → ℕ) (a : Player) (G : Game) (len : ℕ) (at : ℕ → ℕ) (link : ℕ → ℕ → Bool) (v : ℕ) : Type 0 where
  pub some : 0 < len
  pub start : at 0 ≡ v
  pub vertex : (i : ℕ) → i < len → at i < G.n
  pub source : (i j : ℕ) → So (link i j) → i < len
  pub target : (i j : ℕ) → So (link i j) → j < len
  -- every link follows an edge
  pub follows : (i j : ℕ) → So (link i j) → So (G.edge (at i) (at j))
  -- each position at a vertex of the player's has a link
  pub moves : (i : ℕ) → i < len → So (own G a (at i)) → (j : ℕ) × So (link i j)
  -- each position at the opponent's has, for every successor, a link to a position at it
  pub answers : (i : ℕ) → i < len → own G a (at i) ≡ false → (w : ℕ) → Succ G (at i) w → (j : ℕ) × So (link i j) × (at j ≡ w)
  -- every closed walk has a lowest priority of the player's parity
  pub closed : (i : ℕ) (ks : List ℕ) → Walk link i ks i → So (parity a (seen op (λ k. G.priority (at k)) i ks))

abbrev pub WinsBy : (ℕ → ℕ → ℕ) → Player → Game → Plan → ℕ → Type 0
WinsBy op a G P = Winning op a G (length P.vertices) (λ i. get_or P.vertices i 0) (linked P.links)

-- the plan wins from v for the player
abbrev pub Wins : Player → Game → Plan → ℕ → Type 0
Wins = WinsBy min

-- the player has a winning plan from v
abbrev pub Won : Player → Game → ℕ → Type 0
Won a G v = (P : Plan) × Wins a G P v

-- by a plan that has no more positions than the game has vertices, and no more links than it has different edges
pub record WonSmall (a : Player) (G : Game) (v : ℕ) : Type 0 where
  pub plan : Plan
  pub wins : Wins a G plan v
  pub positions : length plan.vertices ≤ G.n
  pub links : length plan.links ≤ edge_count G
