-- Laws of edges listed in two parallel arrays: edges behind edges, and the arrays read back.
use Rattle.std.specs.Prelude.{◌≡◌, refl, List, [], ◌∷◌, ◌++◌, map, ℕ, ◌+◌, ◌≤◌, ◌<◌, length, get_or, set}
use Rattle.std.proofs.Common.{sym, ◌∙◌, arith, length-append}
use Rattle.std.proofs.lemmas.List.{map-append, length-map}
use Rattle.theory.specs.Logic.Range.{tabulate}
use Rattle.theory.proofs.Logic.ListLaws.{tabulate_by}
use Rattle.table.specs.AnswersLaws.{get_d_written}
use Rattle.table.specs.Placing.{placed}
use Rattle.table.specs.PlacingLaws.{placed_written, placed_start, placed_one, placed_join}
use Rattle.table.specs.Listing.{sources_of, targets_of, Appended}

pub appended_none : (e : ℕ) (sources targets : List ℕ) → Appended [] e sources sources targets targets e
unfolding tabulate
appended_none e sources targets =
    record { count = omega arith; sources_after = placed_start e (λ i. i) sources; targets_after = placed_start e (λ i. i) targets }

pub appended_join : (xs ys : List (ℕ × ℕ)) (a e r : ℕ) (s₀ s₁ s₂ t₀ t₁ t₂ : List ℕ) → a + length xs ≤ length s₀ → a + length xs ≤ length t₀
    → Appended xs a s₀ s₁ t₀ t₁ e → Appended ys e s₁ s₂ t₁ t₂ r → Appended (xs ++ ys) a s₀ s₂ t₀ t₂ r
appended_join xs ys a e r s₀ s₁ s₂ t₀ t₁ t₂ hs ht p q = record {
  count = omega (arith, p.count, q.count, length-append xs ys);
  sources_after = part (λ p. p.0) s₀ s₁ s₂ hs p.sources_after q.sources_after;
  targets_after = part (λ p. p.1) t₀ t₁ t₂ ht p.targets_after q.targets_after;
}
  where
    part : (f : ℕ × ℕ → ℕ) (o m n : List ℕ) → a + length xs ≤ length o → m ≡ placed a (map f xs) o → n ≡ placed e (map f ys) m
        → n ≡ placed a (map f (xs ++ ys)) o
    part f o m n h u v =
        let l = length-map xs f in
        let at : e ≡ a + length (map f xs) = omega (arith, p.count) in
        v ∙ rw (u, at, map-append f xs ys) (placed_join a (map f xs) (map f ys) o (omega arith))

-- one edge is put
pub appended_one : (c d e : ℕ) (s t : List ℕ) → e < length s → e < length t → Appended ((c, d) ∷ []) e s (set s e c) t (set t e d) (e + 1)
appended_one c d e s t hs ht = record { count = refl; sources_after = placed_one e c s hs; targets_after = placed_one e d t ht }

-- the first words of a buffer, read back
pub read_back : (e : ℕ) (words old new : List ℕ) → e ≡ length words → new ≡ placed 0 words old → tabulate e (λ i. get_or new i 0) ≡ words
read_back e words old new n w =
    sym (tabulate_by e _ 0 words (sym n) (λ i h. sym (rw (w, placed_written words old) (get_d_written words old i 0 (omega arith)))))

-- so are listed edges
module _ {es : List (ℕ × ℕ)} {s s' t t' : List ℕ} {e : ℕ} (appended : Appended es 0 s s' t t' e) where
  pub listed_sources : tabulate e (λ i. get_or s' i 0) ≡ sources_of es
  listed_sources = read_back e (sources_of es) s s' (omega (arith, appended.count, length-map es (λ (x : ℕ × ℕ). x.0))) appended.sources_after

  pub listed_targets : tabulate e (λ i. get_or t' i 0) ≡ targets_of es
  listed_targets = read_back e (targets_of es) t t' (omega (arith, appended.count, length-map es (λ (x : ℕ × ℕ). x.1))) appended.targets_after
