-- A winning plan is carried along a simulation that relates x to y for a player: from x to y (`CarryLaws` puts the two parts together).
-- Core: a plan that projects to a winning one wins, since its closed walks project to closed walks with the same priorities.
-- Step: at a related pair of a position and a vertex the simulation finds the next pair, or one for each move of the opponent's.
use Rattle.std.specs.Prelude.{◌≡◌, Bool, map, ℕ, ◌<◌}
use Rattle.std.proofs.Math.Path.{refl}
use Rattle.std.proofs.Common.{sym, subst, true≢false}
use Rattle.std.proofs.Math.Bool.{true, false, So}
use Rattle.std.proofs.lemmas.Bool.{false≢true}
use Rattle.theory.specs.Order.Passes.{Rel}
use Rattle.theory.specs.Games.Game.{Player, Game, own, Succ}
use Rattle.theory.specs.Order.Simulation.{Moves, Simulation}
use Rattle.theory.specs.Plans.Plan.{Winning}
use Rattle.theory.proofs.Plans.WalkLaws.{walk_over, seen_over}

-- ---- core: positions k that stand for the positions `pos k` of a winning plan

-- Positions k with vertices at' k stand for positions pos k of a plan. What they have to bring to win: all of `Winning` but the closed
-- walks, the priorities of the plan, links over its links.
pub record Projects (a : Player) (G₁ G₂ : Game) (at : ℕ → ℕ) (link : Rel) (len' : ℕ) (at' : ℕ → ℕ) (link' : Rel) (w : ℕ) (pos : ℕ → ℕ) : Type 0 where
  pub some : 0 < len'
  pub start : at' 0 ≡ w
  pub vertex : (k : ℕ) → k < len' → at' k < G₂.n
  pub equal : (k : ℕ) → k < len' → G₂.priority (at' k) ≡ G₁.priority (at (pos k))
  pub source : (k l : ℕ) → So (link' k l) → k < len'
  pub target : (k l : ℕ) → So (link' k l) → l < len'
  pub over : (k l : ℕ) → So (link' k l) → So (link (pos k) (pos l))
  pub follows : (k l : ℕ) → So (link' k l) → So (G₂.edge (at' k) (at' l))
  pub moves : (k : ℕ) → k < len' → So (own G₂ a (at' k)) → (l : ℕ) × So (link' k l)
  pub answers : (k : ℕ) → k < len' → own G₂ a (at' k) ≡ false → (u : ℕ) → Succ G₂ (at' k) u → (l : ℕ) × So (link' k l) × (at' l ≡ u)

module _ (op : ℕ → ℕ → ℕ) (a : Player) (G₁ G₂ : Game)
    (len : ℕ) (at : ℕ → ℕ) (link : ℕ → ℕ → Bool) (v : ℕ) (win : Winning op a G₁ len at link v)
    (len' : ℕ) (at' : ℕ → ℕ) (link' : ℕ → ℕ → Bool) (w : ℕ) (pos : ℕ → ℕ) (p : Projects a G₁ G₂ at link len' at' link' w pos) where
  pub winning_projects : Winning op a G₂ len' at' link' w
  winning_projects = record {
    some = p.some;
    start = p.start;
    vertex = p.vertex;
    source = p.source;
    target = p.target;
    follows = p.follows;
    moves = p.moves;
    answers = p.answers;
    closed = λ i ks c.
        rw (seen_over link link' pos p.over op (λ i. G₁.priority (at i)) (λ i. G₂.priority (at' i)) (λ k l t. p.equal k (p.source k l t)) i ks i c)
        (win.closed (pos i) (map pos ks) (walk_over link link' pos p.over i ks i c));
  }

-- ---- step: a position i and a vertex u of G₂ that its vertex is related to

module _ (op : ℕ → ℕ → ℕ) (a : Player) (G₁ G₂ : Game) (H : ℕ → ℕ → Type 0) (sim : Simulation a G₁ G₂ H)
    (len : ℕ) (at : ℕ → ℕ) (link : ℕ → ℕ → Bool) (v : ℕ) (win : Winning op a G₁ len at link v)
    (i u : ℕ) (hi : i < len) (hu : u < G₂.n) (r : H (at i) u) where
  along : (j : ℕ) → So (link i j) → Succ G₁ (at i) (at j)
  along j t = record { inside = win.vertex j (win.target i j t); along = win.follows i j t }

  -- where the opponent moves at i, every successor is answered
  answered : (x u' : ℕ) → own G₁ a (at i) ≡ false → Succ G₁ (at i) x → H x u' → (j : ℕ) × So (link i j) × H (at j) u'
  answered x u' e s q = let j = win.answers i hi e x s in (j.0, j.1, subst (λ (z : ℕ). H z u') (sym j.2) q)

  -- u is the player's: some link and some successor are related again
  pub step_own : So (own G₂ a u) → (j u' : ℕ) × So (link i j) × Succ G₂ u u' × H (at j) u'
  unfolding Moves
  step_own o = go (own G₁ a (at i)) (own G₂ a u) refl o (sim (at i) u (win.vertex i hi) hu r).moves
    where
      go : (oi ou : Bool) → own G₁ a (at i) ≡ oi → So ou → Moves oi ou (Succ G₁ (at i)) (Succ G₂ u) H
          → (j u' : ℕ) × So (link i j) × Succ G₂ u u' × H (at j) u'
      go true true e t m = let j = win.moves i hi e in let q = m (at j.0) (along j.0 j.1) in (j.0, q.0, j.1, q.1, q.2)
      go false true e t m = let j = answered m.0 m.1 e m.2 m.4 in (j.0, m.1, j.1, m.3, j.2)
      go oi false e t m = absurd (false≢true t)

  -- u is the opponent's: for each successor some link is related to it
  pub step_opponent : own G₂ a u ≡ false → (u' : ℕ) → Succ G₂ u u' → (j : ℕ) × So (link i j) × H (at j) u'
  unfolding Moves
  step_opponent o u' s = go (own G₁ a (at i)) (own G₂ a u) refl o (sim (at i) u (win.vertex i hi) hu r).moves
    where
      go : (oi ou : Bool) → own G₁ a (at i) ≡ oi → ou ≡ false → Moves oi ou (Succ G₁ (at i)) (Succ G₂ u) H → (j : ℕ) × So (link i j) × H (at j) u'
      go true false e t m = let j = win.moves i hi e in (j.0, j.1, m (at j.0) u' (along j.0 j.1) s)
      go false false e t m = let q = m u' s in answered q.0 u' e q.1 q.2
      go oi true e t m = absurd (true≢false t)
