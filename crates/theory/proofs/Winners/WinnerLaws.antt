-- No vertex has winning plans for both players: played against each other, the two plans walk in step through one vertex after another;
-- after enough steps both are where they were before, on a closed walk of each that sees the same priorities.
use Rattle.std.specs.Prelude.{◌≡◌, ◌⊎◌, Bool, false, not, length, get_or}
use Rattle.std.proofs.Math.Path.{sym, ap, ap₂}
use Rattle.std.proofs.Common.{◌∙◌, subst, inl, inr, zero-add, suc-add, arith}
use Rattle.std.proofs.Math.Bool.{So}
use mathlib.Core.List.{List, [], ◌∷◌, map}
use Prim.Native.Nat.{ℕ, zero, suc, ◌+◌, ◌*◌, ◌-◌, ◌<◌, min}
use Rattle.std.proofs.Math.Arith.{digits_lt}
use Rattle.theory.proofs.Logic.BoolsLaws.{decide, clash, not_out}
use Rattle.theory.proofs.Logic.CountLaws.{pigeonhole, digits_one}
use Rattle.theory.specs.Games.Game.{Player, other, Game, own, Succ}
use Rattle.theory.proofs.Games.GameLaws.{same_other, parity_other}
use Rattle.theory.specs.Plans.Plan.{linked, Walk, seen, Winning, Won}

module _ (a : Player) (G : Game) (len₁ : ℕ) (at₁ : ℕ → ℕ) (link₁ : ℕ → ℕ → Bool) (len₂ : ℕ) (at₂ : ℕ → ℕ) (link₂ : ℕ → ℕ → Bool) where
  -- a position of each plan, at one vertex
  record Joint : Type 0 where
    i : ℕ
    j : ℕ
    i_lt : i < len₁
    j_lt : j < len₂
    meet : at₁ i ≡ at₂ j

  record Step (x : Joint) : Type 0 where
    to : Joint
    link_i : So (link₁ x.i to.i)
    link_j : So (link₂ x.j to.j)

  module _ (v : ℕ) (P : Winning min a G len₁ at₁ link₁ v) (Q : Winning min (other a) G len₂ at₂ link₂ v) where
    -- the vertex's owner moves, the other plan answers
    step : (x : Joint) → Step x
    step x = go (decide (own G a (at₁ x.i)))
      where
        opposed : own G (other a) (at₂ x.j) ≡ not (own G a (at₁ x.i))
        opposed = same_other a (G.owner (at₂ x.j)) ∙ ap (λ (u : ℕ). not (own G a u)) (sym x.meet)

        go : So (own G a (at₁ x.i)) ⊎ (own G a (at₁ x.i) ≡ false) → Step x
        go (inl t) =
            let m = P.moves x.i x.i_lt t in
            let h = P.target x.i m.0 m.1 in
            let s : Succ G (at₂ x.j) (at₁ m.0) =
            subst (λ (u : ℕ). Succ G u (at₁ m.0)) x.meet (record { inside = P.vertex m.0 h; along = P.follows x.i m.0 m.1 }) in
            let r = Q.answers x.j x.j_lt (opposed ∙ ap not t) (at₁ m.0) s in record {
              to = record { i = m.0; j = r.0; i_lt = h; j_lt = Q.target x.j r.0 r.1; meet = sym r.2 };
              link_i = m.1;
              link_j = r.1;
            }
        go (inr f) =
            let m = Q.moves x.j x.j_lt (opposed ∙ ap not f) in
            let h = Q.target x.j m.0 m.1 in
            let s : Succ G (at₁ x.i) (at₂ m.0) =
            subst (λ (u : ℕ). Succ G u (at₂ m.0)) (sym x.meet) (record { inside = Q.vertex m.0 h; along = Q.follows x.j m.0 m.1 }) in
            let r = P.answers x.i x.i_lt f (at₂ m.0) s in record {
              to = record { i = r.0; j = m.0; i_lt = P.target x.i r.0 r.1; j_lt = h; meet = r.2 };
              link_i = r.1;
              link_j = m.1;
            }

    after : ℕ → Joint → Joint
    after zero x = x
    after (suc d) x = after d (step x).to

    trail : ℕ → Joint → List Joint
    trail zero x = []
    trail (suc d) x = (step x).to ∷ trail d (step x).to

    walk₁ : (d : ℕ) (x : Joint) → Walk link₁ x.i (map (λ (z : Joint). z.i) (trail d x)) (after (suc d) x).i
    unfolding after trail
    walk₁ zero x = (step x).link_i
    walk₁ (suc d) x = ((step x).link_i, walk₁ d (step x).to)

    walk₂ : (d : ℕ) (x : Joint) → Walk link₂ x.j (map (λ (z : Joint). z.j) (trail d x)) (after (suc d) x).j
    unfolding after trail
    walk₂ zero x = (step x).link_j
    walk₂ (suc d) x = ((step x).link_j, walk₂ d (step x).to)

    seen_alike : (zs : List Joint) (x : Joint)
        → seen min (λ k. G.priority (at₁ k)) x.i (map (λ (z : Joint). z.i) zs)
        ≡ seen min (λ k. G.priority (at₂ k)) x.j (map (λ (z : Joint). z.j) zs)
    unfolding seen
    seen_alike [] x = ap G.priority x.meet
    seen_alike (z ∷ zs) x = ap₂ min (ap G.priority x.meet) (seen_alike zs z)

    -- a joint walk can't end where it began
    never_closed : (d : ℕ) (x : Joint) → (after (suc d) x).i ≡ x.i → (after (suc d) x).j ≡ x.j → ⊥
    never_closed d x e₁ e₂ =
        let t = P.closed x.i (map (λ (z : Joint). z.i) (trail d x)) (rw e₁ at (walk₁ d x)) in
        let u = Q.closed x.j (map (λ (z : Joint). z.j) (trail d x)) (rw e₂ at (walk₂ d x)) in
        clash (rw (seen_alike (trail d x) x) at t) (not_out (rw (parity_other a) at u))

    after_add : (b d : ℕ) (x : Joint) → after (b + d) x ≡ after d (after b x)
    unfolding after
    after_add zero d x = rw (zero-add d)
    after_add (suc b) d x = rw (suc-add b d) (after_add b d (step x).to)

    begin : Joint
    begin = record { i = 0; j = 0; i_lt = P.some; j_lt = Q.some; meet = P.start ∙ sym Q.start }

    -- the two positions as one number
    code : Joint → ℕ
    code x = x.i * len₂ + x.j

    apart : (b d : ℕ) → b < d → code (after b begin) ≡ code (after d begin) → ⊥
    unfolding code
    apart b d h q =
        let x = after b begin in
        let z = after d begin in
        let k : ℕ = d - suc b in
        let e : after (suc k) x ≡ z = sym (after_add b (suc k) begin) ∙ ap (λ (m : ℕ). after m begin) (omega arith) in
        let p = digits_one x.j_lt z.j_lt q in
        never_closed k x (ap (λ (y : Joint). y.i) e ∙ sym p.0) (ap (λ (y : Joint). y.j) e ∙ sym p.1)

    pub contradiction : ⊥
    unfolding code
    contradiction =
        let r =
        pigeonhole (len₁ * len₂) (λ k. code (after k begin))
        (λ k h. digits_lt (after k begin).i_lt (after k begin).j_lt) in
        apart r.first r.second r.order r.equal

-- both players can't have a winning plan from v
pub one_winner : (a : Player) (G : Game) (v : ℕ) → Won a G v → Won (other a) G v → ⊥
one_winner a G v (P, p) (Q, q) =
    contradiction a G (length P.vertices) (λ i. get_or P.vertices i 0) (linked P.links) (length Q.vertices)
    (λ i. get_or Q.vertices i 0) (linked Q.links) v p q
