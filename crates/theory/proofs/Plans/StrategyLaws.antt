-- A winning plan is a winning strategy of document 004: its memory is a position, found from the history. At the player's vertices some
-- link of that position is followed, and whatever the opponent does, a link leads to a position at the vertex that the token comes to.
use Rattle.std.specs.Prelude.{◌≡◌, Bool, cond, List, [], ◌∷◌, ltb, length, get_or}
use Rattle.std.proofs.Math.Path.{sym, ap}
use Rattle.std.proofs.Common.{◌∙◌}
use Rattle.std.proofs.Math.Logic.{inl, inr}
use Rattle.std.proofs.Math.Bool.{So}
use Prim.Native.Nat.{ℕ, zero, suc, ◌<◌, min}
use Rattle.std.proofs.Math.Dec.{eqb}
use borrow.Author.Tests.{eqb-true, eq-eqb, ltb-true, lt-ltb}
use Rattle.theory.specs.Logic.Bools.{◌&◌}
use Rattle.theory.proofs.Logic.BoolsLaws.{decide, and_in, and_out}
use Rattle.theory.specs.Logic.Range.{first}
use Rattle.theory.proofs.Logic.RangeLaws.{first_found}
use Rattle.theory.specs.Games.Game.{Player, Game, own, Succ, Total}
use Rattle.theory.specs.Plans.Plan.{linked, Winning, Won}
use Rattle.theory.specs.Plans.Plays.{Play, Strategy, history, Consistent, WinsFrom, WinningStrategy, AlongPlan}
use Rattle.theory.proofs.Plans.PlaysLaws.{along_won}

module _ (a : Player) (G : Game) (total : Total G) (len : ℕ) (at : ℕ → ℕ) (link : ℕ → ℕ → Bool) where
  -- ---- the plan as a strategy

  -- from position i to the first one at w that i is linked to
  advance : ℕ → ℕ → ℕ
  advance i w = first (λ j. link i j & eqb (at j) w) 0 len

  -- the position after a history, with the token at u
  memory : List ℕ → ℕ → ℕ
  memory [] u = 0
  memory (w ∷ h) u = advance (memory h w) u

  -- the vertex that the first link of position i leads to
  chosen : ℕ → ℕ
  chosen i = at (first (link i) 0 len)

  -- the move at u: along that link, or to any successor where it isn't at u that the link begins (the history doesn't follow the plan)
  reply : ℕ → ℕ → ℕ
  reply i u = cond (ltb (chosen i) G.n & G.edge u (chosen i)) (chosen i) (first (G.edge u) 0 G.n)

  reply_legal : (i u : ℕ) → u < G.n → Succ G u (reply i u)
  unfolding reply
  reply_legal i u l = elim (decide (ltb (chosen i) G.n & G.edge u (chosen i))) [
    | inl t ↦ (let b = and_out t in rw t (record { inside = ltb-true (chosen i) G.n b.0; along = b.1 }))
    | inr f ↦ (
        let s = total u l in
        let r = first_found (G.edge u) G.n s.0 s.1.inside s.1.along in
        rw f (record { inside = r.0; along = r.1 }))
  ]

  pub plan_strategy : Strategy a G
  plan_strategy = record { move = λ h u. reply (memory h u) u; legal = λ h u l m. reply_legal (memory h u) u l }

  -- ---- there is always a position to be at

  module _ (v : ℕ) (win : Winning min a G len at link v) where
    reply_chosen : (i : ℕ) → i < len → So (own G a (at i)) → So (link i (first (link i) 0 len)) × (reply i (at i) ≡ chosen i)
    unfolding reply chosen
    reply_chosen i l m =
        let s = win.moves i l m in
        let r = first_found (link i) len s.0 (win.target i s.0 s.1) s.1 in
        let h = lt-ltb (chosen i) G.n (win.vertex (first (link i) 0 len) r.0) in
        let t = and_in h (win.follows i (first (link i) 0 len) r.1) in
        (r.1, rw t)

    -- a link leads to a position at w, if w is where the strategy goes, or any successor where the opponent moves
    linked_to : (i w : ℕ) → i < len → Succ G (at i) w → (So (own G a (at i)) → w ≡ reply i (at i)) → (j : ℕ) × So (link i j) × (at j ≡ w)
    unfolding chosen
    linked_to i w l s e = elim (decide (own G a (at i))) [
      | inl m ↦ (let r = reply_chosen i l m in (first (link i) 0 len, r.0, sym (e m ∙ r.1)))
      | inr f ↦ win.answers i l f w s
    ]

    record Advanced (i w : ℕ) : Type 0 where
      below : advance i w < len
      over : at (advance i w) ≡ w
      along : So (link i (advance i w))

    advanced : (i w : ℕ) → (j : ℕ) × So (link i j) × (at j ≡ w) → Advanced i w
    unfolding advance
    advanced i w (j, t, e) =
        let r = first_found (λ j. link i j & eqb (at j) w) len j (win.target i j t) (and_in t (eq-eqb (at j) w e)) in
        let b = and_out r.1 in
        record { below = r.0; over = eqb-true (at (advance i w)) w b.1; along = b.0 }

    module _ (π : ℕ → ℕ) (play : Play G π) (start : π 0 ≡ v) (consistent : Consistent a G plan_strategy π) where
      position : ℕ → ℕ
      position t = memory (history π t) (π t)

      step : (t : ℕ) → position t < len → at (position t) ≡ π t → Advanced (position t) (π (suc t))
      unfolding position plan_strategy
      step t l e =
          advanced (position t) (π (suc t))
          (linked_to (position t) (π (suc t)) l (record { inside = play.inside (suc t); along = rw e (play.along t) })
          (λ m. consistent t (rw e at m) ∙ ap (reply (position t)) (sym e)))

      stands : (t : ℕ) → (position t < len) × (at (position t) ≡ π t)
      unfolding position memory history
      stands zero = (win.some, win.start ∙ sym start)
      stands (suc t) = let s = stands t in let r = step t s.0 s.1 in (r.below, r.over)

      pub strategy_along : AlongPlan at link π
      unfolding position memory history
      strategy_along =
          record { position = position; over = λ t. (stands t).1; linked = λ t. let s = stands t in (step t s.0 s.1).along }

    pub strategy_wins : WinsFrom a G plan_strategy v
    strategy_wins π play start consistent = along_won a G len at link v win π (strategy_along π play start consistent)

-- who has a winning plan from v has a winning strategy from v
pub won_strategy : (a : Player) (G : Game) → Total G → (v : ℕ) → Won a G v → WinningStrategy a G v
won_strategy a G total v (P, win) =
    let len = length P.vertices in
    let at : ℕ → ℕ = λ i. get_or P.vertices i 0 in
    (plan_strategy a G total len at (linked P.links), strategy_wins a G total len at (linked P.links) v win)
