-- Laws of maps of priorities: what a walk sees is mapped, and the maps that the library uses.
use Rattle.std.specs.Prelude.{◌≡◌, refl, Bool, not, ℕ, ◌-◌, ◌%◌, ◌≤◌, min, max, eqb}
use Rattle.std.proofs.Common.{ap, ◌∙◌, arith}
use Rattle.std.proofs.Math.Path.{ap₂}
use Rattle.std.proofs.Math.Bool.{So}
use mathlib.Core.List.{List, [], ◌∷◌}
use Rattle.theory.specs.Games.Game.{Player, even, odd, parity}
use Rattle.theory.specs.Plans.Plan.{Walk, seen}
use Rattle.theory.specs.Games.ParityMap.{ParityMap}

-- ---- what a walk sees, by c and by c' = f ∘ c on its positions

module _ {Fit : ℕ → Type 0} {op op' : ℕ → ℕ → ℕ} {f : ℕ → ℕ} (t : ParityMap Fit op op' f)
    (c c' : ℕ → ℕ) (link : ℕ → ℕ → Bool) (fits : (i j : ℕ) → So (link i j) → Fit (c i)) (maps : (i j : ℕ) → So (link i j) → f (c i) ≡ c' i) where
  seen_fits : (i : ℕ) (ks : List ℕ) (j : ℕ) → Walk link i ks j → Fit (seen op c i ks)
  unfolding seen
  seen_fits i [] j w = fits i j w
  seen_fits i (k ∷ ks) j w = t.within _ _ (fits i k w.0) (seen_fits k ks j w.1)

  seen_maps : (i : ℕ) (ks : List ℕ) (j : ℕ) → Walk link i ks j → f (seen op c i ks) ≡ seen op' c' i ks
  unfolding seen
  seen_maps i [] j w = maps i j w
  seen_maps i (k ∷ ks) j w = t.joins _ _ (fits i k w.0) (seen_fits k ks j w.1) ∙ ap₂ op' (maps i k w.0) (seen_maps k ks j w.1)

  -- a walk's verdict is the same
  pub seen_parity : (a : Player) (i : ℕ) (ks : List ℕ) (j : ℕ) → Walk link i ks j → parity a (seen op' c' i ks) ≡ parity a (seen op c i ks)
  unfolding parity
  seen_parity a i ks j w = rw (← seen_maps i ks j w) (go a)
    where
      same : f (seen op c i ks) % 2 ≡ seen op c i ks % 2
      same = t.parity _ (seen_fits i ks j w)

      go : (a : Player) → parity a (f (seen op c i ks)) ≡ parity a (seen op c i ks)
      go even = ap (λ (r : ℕ). eqb r 0) same
      go odd = ap (λ (r : ℕ). not (eqb r 0)) same

-- ---- the maps

-- each number stays
pub parity_same : (op : ℕ → ℕ → ℕ) → ParityMap (λ q. Unit) op op (λ q. q)
parity_same op = record { within = λ x y h k. tt; joins = λ x y h k. refl; parity = λ x h. refl }

-- from an even M down: the highest becomes the lowest, and the lowest the highest
module _ (M : ℕ) (two : M % 2 ≡ 0) where
  pub highest_lowest : ParityMap (λ q. q ≤ M) max min (λ q. M - q)
  highest_lowest = record { within = λ x y h k. omega arith; joins = λ x y h k. omega arith; parity = λ x h. omega arith }

  pub lowest_highest : ParityMap (λ q. q ≤ M) min max (λ q. M - q)
  lowest_highest = record { within = λ x y h k. omega arith; joins = λ x y h k. omega arith; parity = λ x h. omega arith }
