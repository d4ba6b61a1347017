-- Laws of the vertices whose word in a table isn't a value, as a word of bits is filled.
use Rattle.std.specs.Prelude.{◌≡◌, Bool, false, List, ℕ, ◌+◌, ◌-◌, ◌≤◌, ◌<◌, min, eqb, ltb, get_or}
use Rattle.std.proofs.Math.Path.{ap}
use Rattle.std.proofs.Common.{inl, inr, arith}
use Rattle.std.proofs.Math.Bool.{not}
use Rattle.std.proofs.Math.Decide.{ℕ_discrete}
use borrow.Author.Tests.{eqb-true, eq-eqb, ltb-true, lt-ltb, le-ltb}
use Rattle.theory.specs.Logic.Bools.{◌&◌, ◌or◌}
use Rattle.theory.proofs.Logic.BoolsLaws.{So_ext, and_in, and_out, or_left, or_right, or_out, and_first}
use Rattle.order_sets.specs.Losses.{differs}

module _ (words : List ℕ) (from value base : ℕ) where
  -- vertex base + k is before w, and its word isn't the value
  abbrev pub differs_to : ℕ → ℕ → Bool
  differs_to w k = ltb (base + k) w & not (eqb (get_or words (from + (base + k)) 0) value)

  pub differs_start : (k : ℕ) → differs_to base k ≡ false
  differs_start k = and_first _ (le-ltb (base + k) base (omega arith))

  pub differs_next : (w k : ℕ) → base ≤ w → ((eqb k (w - base) & not (eqb (get_or words (from + w) 0) value)) or differs_to w k) ≡ differs_to (w + 1) k
  differs_next w k l =
      So_ext
      (λ t. elim (or_out t) [
        | inl a ↦ (let c = and_out a in
            let e : base + k ≡ w = omega (arith, eqb-true k (w - base) c.0) in
            and_in (lt-ltb (base + k) (w + 1) (omega arith)) (rw e c.1))
        | inr a ↦ (let c = and_out a in and_in (lt-ltb (base + k) (w + 1) (omega (arith, ltb-true (base + k) w c.0))) c.1)
      ])
      (λ t. let c = and_out t in elim (ℕ_discrete (base + k) w) [
        | yes e ↦ or_left _ (and_in (eq-eqb k (w - base) (omega arith)) (rw e at c.1))
        | no d ↦ or_right _ (and_in (lt-ltb (base + k) w (omega (arith, ltb-true (base + k) (w + 1) c.0))) c.1)
      ])

  -- w is the end of the word's vertices, or of all
  pub differs_end : (n w k : ℕ) → min n (base + 64) ≤ w → (base < w → w ≤ min n (base + 64)) → k < 64 → differs_to w k ≡ differs words from n value (base + k)
  unfolding differs
  differs_end n w k l m h =
      ap (λ b. b & not (eqb (get_or words (from + (base + k)) 0) value))
      (So_ext
      (λ t. let c = ltb-true (base + k) w t in lt-ltb (base + k) n (omega (arith, m (omega arith))))
      (λ t. let c = ltb-true (base + k) n t in lt-ltb (base + k) w (omega arith)))
