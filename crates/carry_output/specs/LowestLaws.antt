-- The lowest members of the classes, by class words that are read from the last vertex down. When v is read, every class whose representative is
-- above v has it. v's class gets v: that is its representative if v is the lowest member, and otherwise the representative is yet to come.
use Rattle.std.specs.Prelude.{◌≡◌, List, ℕ, ◌+◌, ◌≤◌, ◌<◌, length, get_or, set}
use Rattle.std.proofs.Common.{sym, ap, ◌∙◌, arith, get_or-set_same, get_or-set_other}
use Rattle.std.proofs.Math.Decide.{dec_lt}
use Rattle.theory.specs.Order.Passes.{Rel}
use Rattle.theory.specs.Order.Order.{Preorder}
use Rattle.theory.specs.Classes.Reduction.{class_count, class_number, representative}
use Rattle.theory.proofs.Classes.ClassLaws.{
  same_class_refl,
  lowest_le,
  class_count_le,
  representative_lt,
  class_number_lt,
  representative_class,
  representative_same,
  representatives_apart,
}
use Rattle.classes.specs.Numbering.{Represented}
use Rattle.carry_output.specs.CarryParts.{LowestFrom}

module _ (n : ℕ) (le : Rel) (pre : Preorder n le) where
  -- no representative is n or above
  pub lowest_none : (reps : List ℕ) → LowestFrom n le n reps
  lowest_none reps = record { at = λ c h l. omega (arith, representative_lt n le pre c h, l) }

  pub lowest_more : (v : ℕ) → v < n → (reps : List ℕ) → class_number n le v < length reps → LowestFrom n le (v + 1) reps
      → LowestFrom n le v (set reps (class_number n le v) v)
  lowest_more v h reps l p = record { at = at }
    where
      below : representative n le (class_number n le v) ≤ v
      below = omega (arith, representative_class n le pre v h, lowest_le n le pre v v (same_class_refl n le pre v h))

      at : (c : ℕ) → c < class_count n le → v ≤ representative n le c → get_or (set reps (class_number n le v) v) c 0 ≡ representative n le c
      at c hc b =
          let k = class_number n le v in
          elim (dec_lt v (representative n le c)) [
            | yes a ↦ get_or-set_other reps k c v 0 (λ q. omega (arith, a, below, ap (representative n le) q)) ∙ p.at c hc (omega (arith, a))
            | no a ↦
                (let e : representative n le c ≡ v = omega (arith, a, b) in
                let q : k ≡ c = representatives_apart n le pre k c (class_number_lt n le pre v h) hc (rw e (representative_same n le pre v h)) in
                ap (λ (x : ℕ). get_or (set reps k v) x 0) (sym q) ∙ get_or-set_same reps k v 0 l ∙ sym e)
          ]

  pub lowest_all : (reps : List ℕ) → n ≤ length reps → LowestFrom n le 0 reps → Represented n le reps
  lowest_all reps long p = record { long = omega (arith, class_count_le n le pre); lowest = λ c h. p.at c h (omega arith) }
