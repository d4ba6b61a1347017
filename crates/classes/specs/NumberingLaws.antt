-- Laws of numbering, for any preorder: one vertex more, and all of them.
use Rattle.std.specs.Prelude.{◌≡◌, refl, List, ℕ, ◌+◌, ◌≤◌, ◌<◌, length, get_or, set}
use Rattle.std.proofs.Math.Path.{sym, ap}
use Rattle.std.proofs.Common.{◌∙◌, add-one, get_or-set_same}
use Rattle.std.proofs.Math.Bool.{So}
use Rattle.std.proofs.Math.Decide.{dec_lt}
use native.Mathlib.Omega.{arith}
use Rattle.std.proofs.Math.Seq.{get_or-set_other}
use borrow.Author.Tests.{eq-eqb, ne_eqb}
use Rattle.theory.specs.Logic.Bools.{bit}
use Rattle.theory.specs.Logic.Range.{count, nth}
use Rattle.theory.proofs.Logic.CountLaws.{nth_count, count_le}
use Rattle.theory.specs.Order.Passes.{Rel}
use Rattle.theory.specs.Order.Order.{Preorder}
use Rattle.theory.specs.Classes.Reduction.{lowest, is_lowest, class_count, class_number, representative}
use Rattle.theory.proofs.Classes.ClassLaws.{lowest_le, lowest_lt, lowest_one, lowest_same, same_class_refl, class_count_le, representative_lt}
use Rattle.classes.specs.Numbering.{Numbered, Classed, Represented}

pub numbered_start : (n : ℕ) (le : Rel) (classes reps : List ℕ) → Numbered n le 0 0 classes reps
unfolding count
numbered_start n le classes reps = record { total = refl; numbers = λ u h. absurd (omega arith); lowest = λ c h. absurd (omega arith) }

module _ {n : ℕ} {le : Rel} {v k : ℕ} {classes reps : List ℕ} (pre : Preorder n le) (p : Numbered n le v k classes reps) (h : v < n) where
  abbrev low : ℕ
  low = lowest n le v

  -- at most one class a vertex
  pub numbered_le : k ≤ v
  numbered_le = omega (arith, p.total, count_le v (is_lowest n le))

  numbers_more : (x : ℕ) → x ≡ class_number n le v → v < length classes → (u : ℕ) → u < v + 1 → get_or (set classes v x) u 0 ≡ class_number n le u
  numbers_more x e l u m = elim (dec_lt u v) [
    | yes b ↦ get_or-set_other classes v u x 0 (λ q. omega arith) ∙ p.numbers u b
    | no b ↦ (let q : u ≡ v = omega arith in rw q (get_or-set_same classes v x 0 l ∙ e))
  ]

  -- a lowest member: the next class, and its representative
  module _ (e : low ≡ v) where
    is_lowest_lem : So (is_lowest n le v)
    unfolding is_lowest
    is_lowest_lem = eq-eqb low v e

    pub class_new : k ≡ class_number n le v
    unfolding class_number
    class_new = rw e p.total

    pub numbered_new : v < length classes → k < length reps → Numbered n le (v + 1) (k + 1) (set classes v k) (set reps k v)
    unfolding count bit representative
    numbered_new l m = record {
      total = rw (add-one v, is_lowest_lem) (ap (λ (x : ℕ). x + 1) p.total);
      numbers = numbers_more k class_new l;
      lowest = λ c b. elim (dec_lt c k) [
        | yes x ↦ get_or-set_other reps k c v 0 (λ q. omega arith) ∙ p.lowest c x
        | no x ↦ (
            let q : c ≡ k = omega arith in
            rw q (get_or-set_same reps k v 0 m ∙ sym (nth_count n (is_lowest n le) v h is_lowest_lem) ∙ ap (nth n (is_lowest n le)) (sym p.total)))
      ];
    }

  -- another member: the class of the lowest
  module _ (d : low ≡ v → ⊥) where
    pub lowest_before : low < v
    lowest_before = omega (arith, lowest_le n le pre v v (same_class_refl n le pre v h), d)

    pub class_old : get_or classes low 0 ≡ class_number n le v
    unfolding class_number
    class_old =
        p.numbers low lowest_before
        ∙ ap (λ (x : ℕ). count x (is_lowest n le)) (lowest_one n le pre low v (lowest_lt n le pre v h) h (lowest_same n le pre v h))

    pub numbered_old : (x : ℕ) → x ≡ class_number n le v → v < length classes → Numbered n le (v + 1) k (set classes v x) reps
    unfolding count bit is_lowest
    numbered_old x e l = record {
      total = rw (add-one v, ne_eqb low v d) (omega (arith, p.total));
      numbers = numbers_more x e l;
      lowest = p.lowest;
    }

-- a representative is a vertex
pub represented_lt : {n : ℕ} {le : Rel} {reps : List ℕ} → Preorder n le → Represented n le reps → (c : ℕ) → c < class_count n le
    → (c < length reps) × (get_or reps c 0 < n)
represented_lt {n} {le} pre r c h = (omega (arith, r.long), rw (r.lowest c h) (representative_lt n le pre c h))

-- all vertices are numbered
module _ {n : ℕ} {le : Rel} {k : ℕ} {classes reps : List ℕ} (p : Numbered n le n k classes reps) where
  pub numbered_total : k ≡ class_count n le
  unfolding class_count
  numbered_total = p.total

  pub numbered_classed : n ≤ length classes → Classed n le classes
  numbered_classed h = record { long = h; numbers = p.numbers }

  pub numbered_represented : Preorder n le → n ≤ length reps → Represented n le reps
  numbered_represented pre h = record {
    long = omega (arith, class_count_le n le pre);
    lowest = λ c l. p.lowest c (omega (arith, numbered_total));
  }
