-- A vertex and its class are below each other, and so have the same winner; and two such maps in a row are one.
use Rattle.std.specs.Prelude.{◌≡◌, refl, ◌↔◌, Bool, ℕ, ◌<◌}
use Rattle.std.proofs.Common.{sym, ap, subst, ◌∙◌, inl, inr}
use Rattle.std.proofs.Math.Bool.{true, false}
use Rattle.theory.proofs.Logic.BoolsLaws.{clash}
use Rattle.theory.specs.Games.Game.{Player, even, same, Game, own, Succ, Total}
use Rattle.theory.specs.Order.Simulation.{Moves, PassesTest, Simulation}
use Rattle.theory.specs.Plans.Plan.{Won}
use Rattle.theory.proofs.Winners.DeterminacyLaws.{winner}
use Rattle.theory.proofs.Winners.KeptWinners.{mutual_winner}
use Rattle.theory.proofs.Winners.SameWinner.{same_winner}
use Rattle.theory.specs.Merges.Merged.{Single, Merged, Onto}

module _ {G K : Game} {class : ℕ → ℕ} (m : Merged G K class) where
  -- where one of v and its class is the player's and the other isn't, the class has no choice
  single : (a : Player) (v : ℕ) → v < G.n → (own G a v ≡ own K a (class v) → ⊥) → Single K (class v)
  single a v h apart = elim (m.owner v h) [ inl e ↦ absurd (apart (ap (same a) e)) | inr s ↦ s ]

  moves_up : (a : Player) (v : ℕ) → v < G.n → (p q : Bool) → own G a v ≡ p → own K a (class v) ≡ q
      → Moves p q (Succ G v) (Succ K (class v)) (λ x d. class x ≡ d)
  unfolding Moves
  moves_up a v h true true ep eq = λ x s. (class x, m.forth v x h s, refl)
  moves_up a v h true false ep eq = λ x d s t. single a v h (λ e. clash ep (e ∙ eq)) (class x) d (m.forth v x h s) t
  moves_up a v h false true ep eq = let (w, s) = m.total v h in (w, class w, s, m.forth v w h s, refl)
  moves_up a v h false false ep eq = λ d t. m.back v d h t

  moves_down : (a : Player) (v : ℕ) → v < G.n → (p q : Bool) → own K a (class v) ≡ p → own G a v ≡ q
      → Moves p q (Succ K (class v)) (Succ G v) (λ d x. class x ≡ d)
  unfolding Moves
  moves_down a v h true true ep eq = λ d t. m.back v d h t
  moves_down a v h true false ep eq = λ d x t s. single a v h (λ e. clash (e ∙ ep) eq) (class x) d (m.forth v x h s) t
  moves_down a v h false true ep eq = let (w, s) = m.total v h in (class w, w, m.forth v w h s, s, refl)
  moves_down a v h false false ep eq = λ x s. (class x, m.forth v x h s, refl)

  -- the map and its converse are direct simulations, for either player
  pub merged_up : (a : Player) → Simulation a G K (λ x d. class x ≡ d)
  merged_up a v d hv hd e =
      subst (PassesTest a G K (λ x d. class x ≡ d) v) e
      (record { equal = m.priority v hv; moves = moves_up a v hv (own G a v) (own K a (class v)) refl refl })

  pub merged_down : (a : Player) → Simulation a K G (λ d x. class x ≡ d)
  merged_down a d v hd hv e =
      subst (λ (c : ℕ). PassesTest a K G (λ d x. class x ≡ d) c v) e
      (record { equal = sym (m.priority v hv); moves = moves_down a v hv (own K a (class v)) (own G a v) refl refl })

  -- ---- winners

  -- each player has a winning plan from a vertex exactly when that player has one from its class
  pub merged_won : (a : Player) (v : ℕ) → v < G.n → Won a G v ↔ Won a K (class v)
  merged_won a v h =
      mutual_winner a G K v (class v) h (m.inside v h)
      (record { relation = λ x d. class x ≡ d; simulation = merged_up even; holds = refl })
      (record { relation = λ d x. class x ≡ d; simulation = merged_down even; holds = refl })

  pub onto_total : Onto G K class → Total K
  onto_total onto c h =
      let (v, hv, e) = onto c h in
      let (w, s) = m.total v hv in
      (class w, subst (λ (c : ℕ). Succ K c (class w)) e (m.forth v w hv s))

  -- the winner at a vertex is the winner at its class
  pub merged_winner : Total K → (v : ℕ) → v < G.n → winner G v ≡ winner K (class v)
  merged_winner total v h = same_winner m.total total h (m.inside v h) (λ a. merged_won a v h)

-- ---- two in a row

module _ {G K L : Game} {f g : ℕ → ℕ} (m : Merged G K f) (l : Merged K L g) where
  single_on : (v : ℕ) → v < G.n → Single K (f v) → Single L (g (f v))
  single_on v h s d e p q =
      let (x, a, i) = l.back (f v) d (m.inside v h) p in
      let (y, b, j) = l.back (f v) e (m.inside v h) q in
      sym i ∙ ap g (s x y a b) ∙ j

  pub merged_compose : Merged G L (λ v. g (f v))
  merged_compose = record {
    inside = λ v h. l.inside (f v) (m.inside v h);
    priority = λ v h. m.priority v h ∙ l.priority (f v) (m.inside v h);
    total = m.total;
    forth = λ v w h s. l.forth (f v) (f w) (m.inside v h) (m.forth v w h s);
    back = λ v d h s.
        let (x, a, i) = l.back (f v) d (m.inside v h) s in
        let (w, b, j) = m.back v x h a in
        (w, b, ap g j ∙ i);
    owner = λ v h. elim (m.owner v h) [
      | inl e ↦ elim (l.owner (f v) (m.inside v h)) [ inl e' ↦ inl (e ∙ e') | inr s ↦ inr s ]
      | inr s ↦ inr (single_on v h s)
    ];
  }

  pub onto_compose : Onto G K f → Onto K L g → Onto G L (λ v. g (f v))
  onto_compose o p c h =
      let (d, hd, e) = p c h in
      let (v, hv, i) = o d hd in
      (v, hv, ap g i ∙ e)

-- ---- another map that agrees on the vertices

module _ {G K : Game} {f g : ℕ → ℕ} (m : Merged G K f) (agree : (v : ℕ) → v < G.n → f v ≡ g v) where
  pub merged_agree : Merged G K g
  merged_agree = record {
    inside = λ v h. rw (sym (agree v h)) (m.inside v h);
    priority = λ v h. m.priority v h ∙ ap K.priority (agree v h);
    total = m.total;
    forth = λ v w h s. rw (sym (agree v h), sym (agree w s.inside)) (m.forth v w h s);
    back = λ v d h s. let (w, t, e) = m.back v d h (rw (agree v h) s) in (w, t, sym (agree w t.inside) ∙ e);
    owner = λ v h. rw (agree v h) at (m.owner v h);
  }

  pub onto_agree : Onto G K f → Onto G K g
  onto_agree onto c h = let (v, hv, e) = onto c h in (v, hv, sym (agree v hv) ∙ e)
