-- Laws of the pairs that are kept: they are listed one by one.
use Rattle.std.specs.Prelude.{◌≡◌, refl, Bool, true, false, cond, List, [], ◌∷◌, ◌++◌, ℕ, zero, suc, ◌+◌, ◌≤◌, ◌<◌, eqb, leb, length, get_or, set}
use Rattle.std.proofs.Common.{ap, ◌∙◌, arith, length-append}
use Rattle.theory.specs.Logic.Bools.{◌&◌}
use Rattle.theory.specs.Logic.Range.{tabulate}
use Rattle.table.specs.Placing.{placed}
use Rattle.table.specs.PlacingLaws.{placed_start, placed_more}
use Rattle.table.specs.Listing.{Appended}
use Rattle.table.specs.ListingLaws.{appended_none, appended_join}
use Rattle.edit_run.specs.Turned.{pair_at, passing_below, kept_pairs}
use Rattle.edit_run.specs.SurvivorLaws.{passing_more}

-- a word put behind others
set_one : (e s : ℕ) (K : List ℕ) → e < length K → set K e s ≡ placed e (s ∷ []) K
unfolding tabulate
set_one e s K h =
    let f : ℕ → ℕ = λ i. s in
    let z : e + 0 ≡ e = omega arith in
    ap (λ (l : List ℕ). set l e s) (placed_start e f K) ∙ (rw z at (placed_more e f 0 K (omega arith)))

pub appended_one : (e s t : ℕ) (K E : List ℕ) → e < length K → e < length E → Appended ((s, t) ∷ []) e K (set K e s) E (set E e t) (e + 1)
appended_one e s t K E hk he = record { count = refl; sources_after = set_one e s K hk; targets_after = set_one e t E he }

passing_few : (p : ℕ → Bool) (f : ℕ → ℕ × ℕ) (k : ℕ) → length (passing_below p f k) ≤ k
unfolding passing_below
passing_few p f zero = omega arith
passing_few p f (suc k) = go (p k) (passing_few p f k)
  where
    go : (b : Bool) → length (passing_below p f k) ≤ k → length (passing_below p f k ++ cond b (f k ∷ []) []) ≤ suc k
    go true h = omega (arith, length-append (passing_below p f k) (f k ∷ []))
    go false h = omega (arith, length-append {A = ℕ × ℕ} (passing_below p f k) [])

module _ (S T copies links : List ℕ) (end : ℕ) where
  pub kept_start : (kept ends : List ℕ) → Appended (kept_pairs S T copies links end 0) 0 kept kept ends ends 0
  unfolding passing_below
  kept_start kept ends = appended_none 0 kept ends

  pub kept_few : (x : ℕ) → length (kept_pairs S T copies links end x) ≤ x
  kept_few x = passing_few _ (pair_at S T) x

  pub kept_more : (x e r : ℕ) (b : Bool) (k₀ k₁ k₂ e₀ e₁ e₂ : List ℕ) → x ≤ length k₀ → x ≤ length e₀
      → b ≡ (eqb (get_or copies x 0) 0 & leb end (get_or links x 0))
      → Appended (kept_pairs S T copies links end x) 0 k₀ k₁ e₀ e₁ e → Appended (cond b (pair_at S T x ∷ []) []) e k₁ k₂ e₁ e₂ r
      → Appended (kept_pairs S T copies links end (x + 1)) 0 k₀ k₂ e₀ e₂ r
  kept_more x e r b k₀ k₁ k₂ e₀ e₁ e₂ hk he q a d =
      rw (passing_more (λ x. eqb (get_or copies x 0) 0 & leb end (get_or links x 0)) (pair_at S T) x, ← q)
      (appended_join _ _ _ _ _ _ _ _ _ _ _ (omega (arith, kept_few x)) (omega (arith, kept_few x)) a d)
