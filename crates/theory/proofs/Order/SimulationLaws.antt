-- Laws of direct simulation, once over the player: the converse serves the opponent, identity and composition are simulations.
use Rattle.std.specs.Prelude.{◌≡◌, refl, Bool, true, false, not, ℕ, ◌<◌}
use Rattle.std.proofs.Common.{sym, ◌∙◌, subst}
use Rattle.theory.specs.Games.Game.{Player, other, Game, own, Succ}
use Rattle.theory.proofs.Games.GameLaws.{same_other}
use Rattle.theory.specs.Order.Simulation.{Moves, PassesTest, Simulation, Below, Compose}

-- ---- the pair test

-- read from the other side, with the other player: the same test
pub moves_dual {ℓ} : (ov ow : Bool) (X Y : ℕ → Type 0) (H : ℕ → ℕ → Type ℓ) → Moves ov ow X Y H → Moves (not ow) (not ov) Y X (λ w v. H v w)
unfolding Moves
moves_dual true true X Y H m = m
moves_dual true false X Y H m = λ w' v' hw hv. m v' w' hv hw
moves_dual false true X Y H m = (m.1, m.0, m.3, m.2, m.4)
moves_dual false false X Y H m = m

-- a larger relation passes too
pub moves_mono {ℓ ℓ'} : (ov ow : Bool) (X Y : ℕ → Type 0) (H : ℕ → ℕ → Type ℓ) (K : ℕ → ℕ → Type ℓ')
    → ((v w : ℕ) → X v → Y w → H v w → K v w) → Moves ov ow X Y H → Moves ov ow X Y K
unfolding Moves
moves_mono true true X Y H K f m = λ v' s. let r = m v' s in (r.0, r.1, f v' r.0 s r.1 r.2)
moves_mono true false X Y H K f m = λ v' w' s t. f v' w' s t (m v' w' s t)
moves_mono false true X Y H K f m = (m.0, m.1, m.2, m.3, f m.0 m.1 m.2 m.3 m.4)
moves_mono false false X Y H K f m = λ w' t. let r = m w' t in (r.0, r.1, f r.0 w' r.1 t r.2)

pub moves_refl : (o : Bool) (X : ℕ → Type 0) → Moves o o X X (λ v w. v ≡ w)
unfolding Moves
moves_refl true X = λ v s. (v, s, refl)
moves_refl false X = λ v s. (v, s, refl)

pub moves_compose {ℓ} : (ov ou ow : Bool) (X Y Z : ℕ → Type 0) (H K : ℕ → ℕ → Type ℓ)
    → Moves ov ou X Y H → Moves ou ow Y Z K → Moves ov ow X Z (Compose Y H K)
unfolding Moves
moves_compose true true true X Y Z H K m k = λ v s. let p = m v s in let q = k p.0 p.1 in (q.0, q.1, (p.0, p.1, p.2, q.2))
moves_compose true true false X Y Z H K m k = λ v w s t. let p = m v s in (p.0, p.1, p.2, k p.0 w p.1 t)
moves_compose true false true X Y Z H K m k = λ v s. (k.1, k.3, (k.0, k.2, m v k.0 s k.2, k.4))
moves_compose true false false X Y Z H K m k = λ v w s t. let q = k w t in (q.0, q.1, m v q.0 s q.1, q.2)
moves_compose false true true X Y Z H K m k = let q = k m.1 m.3 in (m.0, q.0, m.2, q.1, (m.1, m.3, m.4, q.2))
moves_compose false true false X Y Z H K m k = λ w t. (m.0, m.2, (m.1, m.3, m.4, k m.1 w m.3 t))
moves_compose false false true X Y Z H K m k = let p = m k.0 k.2 in (p.0, k.1, p.1, k.3, (k.0, k.2, p.2, k.4))
moves_compose false false false X Y Z H K m k = λ w t. let q = k w t in let p = m q.0 q.1 in (p.0, p.1, (q.0, q.1, p.2, q.2))

-- ---- simulations

module _ (a : Player) where
  pub simulation_dual : (G₁ G₂ : Game) (H : ℕ → ℕ → Type 0) → Simulation a G₁ G₂ H → Simulation (other a) G₂ G₁ (λ w v. H v w)
  simulation_dual G₁ G₂ H sim w v hw hv h = let t = sim v w hv hw h in record {
    equal = sym t.equal;
    moves =
        rw (same_other a (G₁.owner v), same_other a (G₂.owner w))
        (moves_dual (own G₁ a v) (own G₂ a w) (Succ G₁ v) (Succ G₂ w) H t.moves);
  }

  pub simulation_refl : (G : Game) → Simulation a G G (λ v w. v ≡ w)
  simulation_refl G v w hv hw e =
      subst (λ (u : ℕ). PassesTest a G G (λ v w. v ≡ w) v u) e (record { equal = refl; moves = moves_refl (own G a v) (Succ G v) })

  pub simulation_compose : (G₁ G₂ G₃ : Game) (H K : ℕ → ℕ → Type 0) → Simulation a G₁ G₂ H → Simulation a G₂ G₃ K
      → Simulation a G₁ G₃ (Compose (λ u. u < G₂.n) H K)
  simulation_compose G₁ G₂ G₃ H K sim sim' v w hv hw r =
      let s = sim v r.0 hv r.1 r.2 in
      let t = sim' r.0 w r.1 hw r.3 in record {
        equal = s.equal ∙ t.equal;
        moves =
            moves_mono (own G₁ a v) (own G₃ a w) (Succ G₁ v) (Succ G₃ w) (Compose (Succ G₂ r.0) H K) (Compose (λ u. u < G₂.n) H K)
            (λ v' w' hv' hw' q. (q.0, q.1.inside, q.2, q.3))
            (moves_compose (own G₁ a v) (own G₂ a r.0) (own G₃ a w) (Succ G₁ v) (Succ G₂ r.0) (Succ G₃ w) H K s.moves t.moves);
      }

  -- ---- "below": some simulation holds the pair

  pub below_dual : {G₁ G₂ : Game} {v w : ℕ} → Below a G₁ G₂ v w → Below (other a) G₂ G₁ w v
  below_dual {G₁} {G₂} b = record {
    relation = λ w v. b.relation v w;
    simulation = simulation_dual G₁ G₂ b.relation b.simulation;
    holds = b.holds;
  }

  pub below_refl : (G : Game) (v : ℕ) → Below a G G v v
  below_refl G v = record { relation = λ v w. v ≡ w; simulation = simulation_refl G; holds = refl }

  pub below_trans : {G₁ G₂ G₃ : Game} {v u w : ℕ} → u < G₂.n → Below a G₁ G₂ v u → Below a G₂ G₃ u w → Below a G₁ G₃ v w
  below_trans {G₁} {G₂} {G₃} {u} h b c = record {
    relation = Compose (λ x. x < G₂.n) b.relation c.relation;
    simulation = simulation_compose G₁ G₂ G₃ b.relation c.relation b.simulation c.simulation;
    holds = (u, h, b.holds, c.holds);
  }

-- the pair test holds of "below"
pub below_moves : (a : Player) {G₁ G₂ : Game} {v w : ℕ} → v < G₁.n → w < G₂.n → Below a G₁ G₂ v w
    → Moves (own G₁ a v) (own G₂ a w) (Succ G₁ v) (Succ G₂ w) (Below a G₁ G₂)
below_moves a {G₁} {G₂} {v} {w} hv hw b =
    moves_mono (own G₁ a v) (own G₂ a w) (Succ G₁ v) (Succ G₂ w) b.relation (Below a G₁ G₂)
    (λ v' w' s t r. record { relation = b.relation; simulation = b.simulation; holds = r }) (b.simulation v w hv hw b.holds).moves

-- what is at least as good for one player is at most as good for the other
pub below_turn : {G₁ G₂ : Game} {v w : ℕ} (a b : Player) → other b ≡ a → Below b G₁ G₂ v w → Below a G₂ G₁ w v
below_turn a b e u = rw e at (below_dual b u)
