-- The winner is the same: with determinacy, what a merge keeps is who wins, and along the order the winner changes in Even's favour only.
use Rattle.std.specs.Prelude.{◌≡◌, refl, ◌↔◌, ℕ, ◌<◌}
use Rattle.std.proofs.Math.Bool.{So}
use Rattle.theory.specs.Games.Game.{Player, even, odd, Game, Total}
use Rattle.theory.specs.Order.Order.{order}
use Rattle.theory.specs.Plans.Plan.{Won}
use Rattle.theory.specs.Classes.Reduction.{quotient, reduced, class_of}
use Rattle.theory.proofs.Classes.ReductionLaws.{quotient_total, reduced_total, class_of_quotient, class_of_reduced}
use Rattle.theory.proofs.Winners.KeptWinners.{even_up, odd_down, quotient_winner, reduced_winner}
use Rattle.theory.proofs.Winners.DeterminacyLaws.{winner, winner_is}

-- two vertices from which each player has a plan exactly where that player has one from the other
pub same_winner : {G K : Game} → Total G → Total K → {v c : ℕ} → v < G.n → c < K.n → ((a : Player) → Won a G v ↔ Won a K c) → winner G v ≡ winner K c
same_winner {G} {K} totalG totalK {v} {c} hv hc alike =
    let a = winner K c in
    (winner_is G totalG v hv a).0 ((alike a).1 ((winner_is K totalK c hc a).1 refl))

-- who wins at v wins at w, where a plan from v gives one from w
pub winner_moves : {G : Game} → Total G → (a : Player) {v w : ℕ} → v < G.n → w < G.n → (Won a G v → Won a G w) → winner G v ≡ a → winner G w ≡ a
winner_moves {G} total a {v} {w} hv hw gives e = (winner_is G total w hw a).0 (gives ((winner_is G total v hv a).1 e))

module _ (g : Game) (total : Total g) where
  -- where v is below w: if Even wins at v then at w, if Odd wins at w then at v
  pub winner_up : (v w : ℕ) → v < g.n → w < g.n → So (order g v w) → winner g v ≡ even → winner g w ≡ even
  winner_up v w hv hw t = winner_moves total even hv hw (even_up g v w hv hw t)

  pub winner_down : (v w : ℕ) → v < g.n → w < g.n → So (order g v w) → winner g w ≡ odd → winner g v ≡ odd
  winner_down v w hv hw t = winner_moves total odd hw hv (odd_down g v w hv hw t)

  -- the winner at a vertex is the winner at its class
  pub winner_quotient : (v : ℕ) → v < g.n → winner g v ≡ winner (quotient g) (class_of g v)
  winner_quotient v h = same_winner total (quotient_total g total) h (class_of_quotient g v h) (λ a. quotient_winner g a v h)

  pub winner_reduced : (v : ℕ) → v < g.n → winner g v ≡ winner (reduced g) (class_of g v)
  winner_reduced v h = same_winner total (reduced_total g total) h (class_of_reduced g v h) (λ a. reduced_winner g a v h)
