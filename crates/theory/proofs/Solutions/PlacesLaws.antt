-- An order that certifies a solution leaves no closed walk of the loser's. Started at its lowest vertex v, the walk goes down first. From
-- below v it would have to rise to v at last, by an edge from a priority no lower than v's; but v is not over that edge's source.
use Rattle.std.specs.Prelude.{◌≡◌, refl, false, List, [], ◌∷◌, ℕ, ◌≤◌, ◌<◌}
use Rattle.std.proofs.Common.{sym, ◌∙◌, inl, inr, le_refl, arith}
use Rattle.std.proofs.Math.Bool.{So}
use Rattle.std.proofs.Math.Decide.{dec_lt}
use Rattle.theory.proofs.Logic.BoolsLaws.{clash}
use Rattle.theory.specs.Order.Passes.{Rel}
use Rattle.theory.specs.Games.Game.{Player, parity, Game}
use Rattle.theory.specs.Plans.Plan.{Walk}
use Rattle.theory.specs.Plans.Returns.{In}
use Rattle.theory.specs.Solutions.Solution.{Kept, Good}
use Rattle.theory.specs.Solutions.Places.{Over, Ordered}

module _ (G : Game) (win : ℕ → Player) (kept : Rel) (place : ℕ → ℕ) (k : Kept G win kept) (o : Ordered G win kept place) where
  module _ (v : ℕ) (h : v < G.n) (wrong : parity (win v) (G.priority v) ≡ false) where
    -- an edge from below v stays below it
    stays_below : (s w : ℕ) → So (kept s w) → win s ≡ win v → G.priority v ≤ G.priority s → place s < place v → place w < place v
    stays_below s w t q l b = elim (dec_lt (place w) (place v)) [
      | yes y ↦ y
      | no y ↦ absurd (over (o.rises s w t v h b (omega arith)))
    ]
      where
        over : Over G win s v → ⊥
        over (inl x) = omega arith
        over (inr x) = clash x.1 (rw (q, x.0) wrong)

    below : (s : ℕ) (ks : List ℕ) (e : ℕ) → Walk kept s ks e → win s ≡ win v → G.priority v ≤ G.priority s → place s < place v
        → ((u : ℕ) → In u ks → G.priority v ≤ G.priority u) → place e < place v
    below s [] e w q l b f = stays_below s e w q l b
    below s (u ∷ ks) e w q l b f =
        below u ks e w.1 (sym (k.stays s u w.0) ∙ q) (f u (inl refl)) (stays_below s u w.0 q l b) (λ x m. f x (inr m))

    never : (ks : List ℕ) → Walk kept v ks v → ((u : ℕ) → In u ks → G.priority v ≤ G.priority u) → ⊥
    never [] w f = omega (arith, o.falls v v w wrong (le_refl (G.priority v)))
    never (u ∷ ks) w f =
        let l = f u (inl refl) in
        omega (arith, below u ks v w.1 (sym (k.stays v u w.0)) l (o.falls v u w.0 wrong l) (λ x m. f x (inr m)))

  pub ordered_good : Good G win kept
  ordered_good v h r = never v h r.wrong r.between r.walk r.above
