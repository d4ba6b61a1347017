-- A play along a winning plan's links is won; no play is won by both players; two strategies, one for each player, have a play.
-- `InfinitelyOften` is a negation and a parity is a test, so that the proofs by contradiction are constructive.
use Rattle.std.specs.Prelude.{◌≡◌, refl, Bool, not, cond, List, [], ◌∷◌}
use Rattle.std.proofs.Common.{sym, ◌∙◌, not-suc-le-zero}
use Rattle.std.proofs.Math.Path.{ap, subst}
use Rattle.std.proofs.Math.Logic.{inl, inr}
use Rattle.std.proofs.Math.Bool.{false, So}
use Prim.Native.Nat.{ℕ, zero, suc, ◌+◌, ◌-◌, ◌≤◌, ◌<◌, min}
use Rattle.std.proofs.Math.Decide.{dec_lt}
use native.Mathlib.Omega.{arith}
use Rattle.theory.proofs.Logic.BoolsLaws.{decide, clash, not_out}
use Rattle.theory.proofs.Logic.RangeLaws.{below_suc}
use Rattle.theory.specs.Games.Game.{Player, other, parity, Game, own, Succ}
use Rattle.theory.proofs.Games.GameLaws.{same_other, parity_other}
use Rattle.theory.specs.Plans.Plan.{Walk, Winning}
use Rattle.theory.specs.Plans.Returns.{In, Return}
use Rattle.theory.proofs.Plans.ReturnsLaws.{closed_out}
use Rattle.theory.specs.Plans.Plays.{Play, InfinitelyOften, LowestForEver, WonPlay}
use Rattle.theory.specs.Plans.Plays.{Strategy, history, Consistent, WinningStrategy, AlongPlan}

-- ---- from some time on

abbrev Finally : (ℕ → Type 0) → Type 0
Finally P = (s : ℕ) × ((t : ℕ) → s ≤ t → P t)

-- if each of finitely many can't fail to hold from some time on, neither can all of them together
finally_all : (n : ℕ) (P : ℕ → ℕ → Type 0) → ((i : ℕ) → i < n → (Finally (P i) → ⊥) → ⊥)
    → (Finally (λ t. (i : ℕ) → i < n → P i t) → ⊥) → ⊥
finally_all zero P f k = k (0, λ t h i l. absurd (not-suc-le-zero l))
finally_all (suc n) P f k =
    finally_all n P (λ i l. f i (omega arith))
    (λ x. f n (omega arith) (λ y. k (x.0 + y.0, λ t h. below_suc (λ (i : ℕ). P i t) (x.1 t (omega arith)) (y.1 t (omega arith)))))

-- where q is seen again and again, and nothing lower from time s on, q is the lowest that is seen for ever
pub lowest_in : (c : ℕ → ℕ) (q s : ℕ) → ((t : ℕ) → (u : ℕ) × (t ≤ u) × (c u ≡ q)) → ((t : ℕ) → s ≤ t → q ≤ c t) → LowestForEver c q
lowest_in c q s again never = record {
  often = λ t absent. let r = again t in absent r.0 (omega (arith, r.1)) r.2;
  lowest = λ r often. elim (dec_lt r q) [ yes l ↦ absurd (often s (λ t h e. omega (arith, never t (omega arith)))) | no m ↦ omega arith ];
}

-- ---- a part of a sequence of linked positions is a walk

module _ (link : ℕ → ℕ → Bool) (p : ℕ → ℕ) where
  -- the d positions after time t
  segment : ℕ → ℕ → List ℕ
  segment t zero = []
  segment t (suc d) = p (suc t) ∷ segment (suc t) d

  segment_walk : ((t : ℕ) → So (link (p t) (p (suc t)))) → (t d : ℕ) → Walk link (p t) (segment t d) (p (suc (t + d)))
  unfolding segment
  segment_walk linked t zero = subst (λ (u : ℕ). So (link (p t) (p (suc u)))) (omega arith) (linked t)
  segment_walk linked t (suc d) =
      (linked t, subst (λ (u : ℕ). Walk link (p (suc t)) (segment (suc t) d) (p (suc u))) (omega arith) (segment_walk linked (suc t) d))

  segment_in : (t d k : ℕ) → In k (segment t d) → (u : ℕ) × (t < u) × (k ≡ p u)
  unfolding segment
  segment_in t zero k m = absurd m
  segment_in t (suc d) k (inl e) = (suc t, omega arith, e)
  segment_in t (suc d) k (inr m) = let r = segment_in (suc t) d k m in (r.0, omega arith, r.2)

-- ---- a play along a winning plan is won

module _ (a : Player) (G : Game) (len : ℕ) (at : ℕ → ℕ) (link : ℕ → ℕ → Bool) (v : ℕ) (win : Winning min a G len at link v)
    (π : ℕ → ℕ) (run : AlongPlan at link π) (q : ℕ) where
  p : ℕ → ℕ
  p = run.position

  c : ℕ → ℕ
  c t = G.priority (π t)

  see : ℕ → ℕ
  see k = G.priority (at k)

  over : (t : ℕ) → see (p t) ≡ c t
  unfolding p c see
  over t = ap G.priority (run.over t)

  -- a position of priority q and of the wrong parity returns, if it is visited twice and nothing lower is seen from the first time on
  returns : parity a q ≡ false → (t u : ℕ) → t < u → p t ≡ p u → c t ≡ q → ((r : ℕ) → t ≤ r → q ≤ c r) → Return a see link (p t)
  unfolding p
  returns wrong t u l e b never = record {
    between = segment link p t d;
    walk = rw end at (segment_walk link p run.linked t d);
    above = λ k m. let r = segment_in link p t d k m in rw (r.2, over t, b, over r.0) (never r.0 (omega (arith, r.1)));
    wrong = rw (over t, b) wrong;
  }
    where
      d : ℕ
      d = u - suc t

      end : p (suc (t + d)) ≡ p t
      end = ap p (omega arith) ∙ sym e

  -- With the wrong parity no position of priority q could be visited twice after the last time that anything lower is seen. There are
  -- finitely many positions, so q would be seen for a last time.
  lowest_parity : LowestForEver (λ t. G.priority (π t)) q → So (parity a q)
  unfolding p c see
  lowest_parity low = elim (decide (parity a q)) [
    | inl t ↦ t
    | inr f ↦ absurd (finally_all q (λ r t. c t ≡ r → ⊥) lower (λ x. last f x.0 (never x.0 x.1)))
  ]
    where
      lower : (r : ℕ) → r < q → (Finally (λ t. c t ≡ r → ⊥) → ⊥) → ⊥
      lower r l k = omega (arith, low.lowest r (λ s absent. k (s, absent)))

      never : (s : ℕ) → ((t : ℕ) → s ≤ t → (r : ℕ) → r < q → c t ≡ r → ⊥) → (t : ℕ) → s ≤ t → q ≤ c t
      never s absent t h = elim (dec_lt (c t) q) [ yes l ↦ absurd (absent t h (c t) l refl) | no m ↦ omega arith ]

      none : (i : ℕ) → Return a see link i → ⊥
      none = closed_out a see link win.closed

      last : parity a q ≡ false → (s : ℕ) → ((t : ℕ) → s ≤ t → q ≤ c t) → ⊥
      last f s above =
          finally_all len (λ i t. p t ≡ i → c t ≡ q → ⊥)
          (λ i l k. k (s, λ t h e b. k (suc t, λ u m e' b'. none (p t) (returns f t u m (e ∙ sym e') b (λ r n. above r (omega arith))))))
          (λ x. low.often x.0 (λ t h b. x.1 t h (p t) (win.source (p t) (p (suc t)) (run.linked t)) refl b))

-- whichever of the links it follows
pub along_won : (a : Player) (G : Game) (len : ℕ) (at : ℕ → ℕ) (link : ℕ → ℕ → Bool) (v : ℕ) → Winning min a G len at link v
    → (π : ℕ → ℕ) → AlongPlan at link π → WonPlay a G π
along_won = lowest_parity

-- ---- a play is won by one player only

module _ (G : Game) (π : ℕ → ℕ) (play : Play G π) where
  -- some priority is the lowest that is seen for ever: it can't be that none is
  pub lowest_exists : ((q : ℕ) × LowestForEver (λ t. G.priority (π t)) q → ⊥) → ⊥
  lowest_exists k =
      finally_all G.n (λ v t. c t ≡ G.priority v → ⊥)
      (λ v l m. none (suc (G.priority v)) (G.priority v) (omega arith) (λ s absent. m (s, absent)))
      (λ x. x.1 x.0 (omega arith) (π x.0) (play.inside x.0) refl)
    where
      c : ℕ → ℕ
      c t = G.priority (π t)

      none : (n q : ℕ) → q < n → InfinitelyOften c q → ⊥
      none zero q l often = absurd (not-suc-le-zero l)
      none (suc n) q l often =
          below_suc (λ (q : ℕ). InfinitelyOften c q → ⊥) (none n)
          (λ o. k (n, record { often = o; lowest = λ r o'. elim (dec_lt r n) [ yes m ↦ absurd (none n r m o') | no m ↦ omega arith ] }))
          q l often

  pub play_one_winner : (a : Player) → WonPlay a G π → WonPlay (other a) G π → ⊥
  play_one_winner a x y = lowest_exists (λ r. clash (x r.0 r.1) (not_out (rw (parity_other a) at (y r.0 r.1))))

-- ---- two strategies, one for each player, have a play: neither is ever without a move

module _ (a : Player) (G : Game) (ρ : Strategy a G) (σ : Strategy (other a) G) (v : ℕ) (inside : v < G.n) where
  -- the owner of the token's vertex moves
  mover : List ℕ → ℕ → ℕ
  mover h u = cond (own G a u) (ρ.move h u) (σ.move h u)

  opponent : (u : ℕ) → own G a u ≡ false → So (own G (other a) u)
  opponent u f = same_other a (G.owner u) ∙ ap not f

  mover_legal : (h : List ℕ) (u : ℕ) → u < G.n → Succ G u (mover h u)
  unfolding mover
  mover_legal h u l =
      elim (decide (own G a u)) [ inl t ↦ rw t (ρ.legal h u l t) | inr f ↦ rw f (σ.legal h u l (opponent u f)) ]

  mover_mine : (h : List ℕ) (u : ℕ) → So (own G a u) → mover h u ≡ ρ.move h u
  unfolding mover
  mover_mine h u m = rw m

  mover_theirs : (h : List ℕ) (u : ℕ) → So (own G (other a) u) → mover h u ≡ σ.move h u
  unfolding mover
  mover_theirs h u m = let f : own G a u ≡ false = not_out (sym (same_other a (G.owner u)) ∙ m) in rw f

  -- the vertices before time t, and the token's
  trail : ℕ → List ℕ × ℕ
  trail zero = ([], v)
  trail (suc t) = let x = trail t in (x.1 ∷ x.0, mover x.0 x.1)

  pub record Outcome : Type 0 where
    pub π : ℕ → ℕ
    pub play : Play G π
    pub start : π 0 ≡ v
    pub mine : Consistent a G ρ π
    pub theirs : Consistent (other a) G σ π

  pub outcome : Outcome
  unfolding trail history
  outcome = record {
    π = π;
    play = record { inside = within; along = λ t. (mover_legal (trail t).0 (π t) (within t)).along };
    start = refl;
    mine = λ t m. rw (before t) (mover_mine (trail t).0 (π t) m);
    theirs = λ t m. rw (before t) (mover_theirs (trail t).0 (π t) m);
  }
    where
      π : ℕ → ℕ
      π t = (trail t).1

      within : (t : ℕ) → π t < G.n
      within zero = inside
      within (suc t) = (mover_legal (trail t).0 (π t) (within t)).inside

      before : (t : ℕ) → history π t ≡ (trail t).0
      before zero = refl
      before (suc t) = rw (before t)

-- both players can't have a winning strategy from v
pub strategy_one_winner : (a : Player) (G : Game) (v : ℕ) → v < G.n → WinningStrategy a G v → WinningStrategy (other a) G v → ⊥
strategy_one_winner a G v h (ρ, x) (σ, y) =
    let o = outcome a G ρ σ v h in
    play_one_winner G o.π o.play a (x o.π o.play o.start o.mine) (y o.π o.play o.start o.theirs)
