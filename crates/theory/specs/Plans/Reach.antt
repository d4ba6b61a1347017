-- Reaching a position by links through positions that pass: as walks of any length, and computed.
use Rattle.std.specs.Prelude.{Bool, List, [], ◌∷◌, ℕ, zero, suc, ◌<◌}
use Rattle.std.proofs.Math.Bool.{So}
use Rattle.theory.specs.Logic.Bools.{◌&◌, ◌or◌}
use Rattle.theory.specs.Logic.Range.{any_below}
use Rattle.theory.specs.Plans.Plan.{Walk}

abbrev pub Each : (ℕ → Type 0) → List ℕ → Type 0
Each P [] = Unit
Each P (k ∷ ks) = P k × Each P ks

-- of p positions, j is reached from i by one link or more, and each position between them passes
pub record Reach (p : ℕ) (link : ℕ → ℕ → Bool) (pass : ℕ → Bool) (i j : ℕ) : Type 0 where
  pub between : List ℕ
  pub walk : Walk link i between j
  pub each : Each (λ k. (k < p) × So (pass k)) between

-- the same by at most k + 1 links
unfoldable pub reaches : ℕ → (ℕ → ℕ → Bool) → (ℕ → Bool) → ℕ → ℕ → ℕ → Bool
reaches p link pass zero i j = link i j
reaches p link pass (suc k) i j = link i j or any_below p (λ m. link i m & pass m & reaches p link pass k m j)
