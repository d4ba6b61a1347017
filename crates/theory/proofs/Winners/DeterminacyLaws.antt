-- Determinacy: each vertex of a total game is won by exactly one player, who has a plan of the game's size for it.
use Rattle.std.specs.Prelude.{◌≡◌, refl, ◌⊎◌, ◌↔◌, Bool, true, false, cond, ℕ, ◌<◌}
use Rattle.std.proofs.Common.{sym, subst}
use Rattle.std.proofs.Math.Logic.{inl, inr}
use Rattle.std.proofs.Math.Bool.{So}
use Rattle.theory.proofs.Logic.BoolsLaws.{decide, clash}
use Rattle.theory.specs.Games.Game.{Player, even, odd, other, same, Game, Total, is_total}
use Rattle.theory.proofs.Games.GameLaws.{same_out, same_fails, total_in, total_out}
use Rattle.theory.specs.Plans.Plan.{Won, WonSmall}
use Rattle.theory.proofs.Winners.WinnerLaws.{one_winner}
use Rattle.theory.specs.Winners.Region.{whole, Solution}
use Rattle.theory.proofs.Winners.RegionPlanLaws.{whole_in, whole_subgame, region_won}
use Rattle.theory.proofs.Winners.Winner.{winner_by}
pub use Rattle.theory.proofs.Winners.Winner.{solve, winner}

-- the winner wins, by a small plan
pub winner_wins : (G : Game) → Total G → (v : ℕ) → v < G.n → WonSmall (winner G v) G v
unfolding winner winner_by
winner_wins G total v h = go (decide (is_total G))
  where
    by : (s : Solution G even (whole G)) (b : Bool) → s.mine v ≡ b → WonSmall (cond b even odd) G v
    by s true e = region_won G even s.mine s.my_region v e
    by s false e = elim (s.cover v (whole_in G v h)) [
      | inl m ↦ clash m e
      | inr t ↦ unfold other in region_won G odd s.theirs s.their_region v t
    ]

    go : (d : So (is_total G) ⊎ (is_total G ≡ false))
        → WonSmall (elim d [ inl t ↦ winner_by (solve G (whole G) (whole_subgame G (total_out G t))) v | inr f ↦ even ]) G v
    go (inl t) = let s = solve G (whole G) (whole_subgame G (total_out G t)) in by s (s.mine v) refl
    go (inr f) = clash (total_in G total) f

won_of : {a : Player} {G : Game} {v : ℕ} → WonSmall a G v → Won a G v
won_of w = (w.plan, w.wins)

-- ---- determinacy

module _ (G : Game) (total : Total G) (v : ℕ) (h : v < G.n) where
  -- the winner is a, or is the opponent
  turned : (a : Player) → (winner G v ≡ a) ⊎ (other a ≡ winner G v)
  turned a = elim (decide (same (winner G v) a)) [ inl t ↦ inl (same_out (winner G v) a t) | inr f ↦ inr (same_fails (winner G v) a f) ]

  won_by : {a : Player} → winner G v ≡ a → WonSmall a G v
  won_by e = subst (λ (b : Player). WonSmall b G v) e (winner_wins G total v h)

  -- a player has a winning plan exactly if that player is the winner
  pub winner_is : (a : Player) → Won a G v ↔ (winner G v ≡ a)
  winner_is a = (
    λ w. elim (turned a) [ inl e ↦ e | inr e ↦ absurd (one_winner a G v w (won_of (won_by (sym e)))) ],
    λ e. won_of (won_by e),
  )

  -- some player has one
  pub determined : Won even G v ⊎ Won odd G v
  unfolding other
  determined = elim (turned even) [ inl e ↦ inl (won_of (won_by e)) | inr e ↦ inr (won_of (won_by (sym e))) ]

  -- whoever has one has one of no more positions than vertices and no more links than edges
  pub won_small : (a : Player) → Won a G v → WonSmall a G v
  won_small a w = won_by ((winner_is a).0 w)

  -- a player has one exactly where the opponent has none
  pub won_lost : (a : Player) → Won (other a) G v ↔ (¬ Won a G v)
  won_lost a = (
    λ l w. one_winner a G v w l,
    λ f. elim (turned a) [ inl e ↦ absurd (f (won_of (won_by e))) | inr e ↦ won_of (won_by (sym e)) ],
  )

  -- and it is decided who has
  pub won_decided : (a : Player) → Dec (Won a G v)
  won_decided a = elim (turned a) [
    | inl e ↦ yes (won_of (won_by e))
    | inr e ↦ no (λ w. one_winner a G v w (won_of (won_by (sym e))))
  ]
