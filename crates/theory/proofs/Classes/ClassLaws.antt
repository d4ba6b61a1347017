-- Laws of classes, for any preorder on n vertices: a class has one lowest member, and the classes' numbers ascend with these.
use Rattle.std.specs.Prelude.{◌≡◌, ◌↔◌, ℕ, ◌≤◌, ◌<◌}
use Rattle.std.proofs.Math.Path.{sym, ap}
use Rattle.std.proofs.Common.{◌∙◌, le_antisymm, lt_of_le_of_lt, arith}
use Rattle.std.proofs.Math.Bool.{So}
use Rattle.std.proofs.Math.Decide.{dec_lt}
use borrow.Author.Tests.{eqb-true, eq-eqb}
use Rattle.theory.proofs.Logic.BoolsLaws.{and_in, and_out}
use Rattle.theory.specs.Logic.Range.{count}
use Rattle.theory.proofs.Logic.RangeLaws.{first_passes, first_least}
use Rattle.theory.proofs.Logic.CountLaws.{Nth, nth_at, nth_count, count_lt, count_le, count_grows}
use Rattle.theory.specs.Order.Passes.{Rel}
use Rattle.theory.specs.Order.Order.{Preorder}
use Rattle.theory.specs.Classes.Reduction.{same_class, lowest, is_lowest, class_count, class_number, representative}

pub same_class_sym : (le : Rel) (v w : ℕ) → So (same_class le v w) → So (same_class le w v)
unfolding same_class
same_class_sym le v w t = let p = and_out t in and_in p.1 p.0

pub same_class_le : (le : Rel) (v w : ℕ) → So (same_class le v w) → So (le v w)
unfolding same_class
same_class_le le v w t = (and_out t).0

pub same_class_ge : (le : Rel) (v w : ℕ) → So (same_class le v w) → So (le w v)
unfolding same_class
same_class_ge le v w t = (and_out t).1

module _ (n : ℕ) (le : Rel) (pre : Preorder n le) where
  -- ---- sharing a class is an equivalence

  pub same_class_refl : (v : ℕ) → v < n → So (same_class le v v)
  unfolding same_class
  same_class_refl v h = and_in (pre.reflexive v h) (pre.reflexive v h)

  pub same_class_trans : (v u w : ℕ) → v < n → u < n → w < n → So (same_class le v u) → So (same_class le u w) → So (same_class le v w)
  unfolding same_class
  same_class_trans v u w hv hu hw s t =
      let p = and_out s in
      let q = and_out t in
      and_in (pre.transitive v u w hv hu hw p.0 q.0) (pre.transitive w u v hw hu hv q.1 p.1)

  -- ---- the lowest member

  pub lowest_le : (v u : ℕ) → So (same_class le u v) → lowest n le v ≤ u
  unfolding lowest
  lowest_le v u t = first_least (λ u. same_class le u v) 0 n u (omega arith) t

  pub lowest_lt : (v : ℕ) → v < n → lowest n le v < n
  lowest_lt v h = lt_of_le_of_lt (lowest_le v v (same_class_refl v h)) h

  pub lowest_same : (v : ℕ) → v < n → So (same_class le (lowest n le v) v)
  unfolding lowest
  lowest_same v h = first_passes (λ u. same_class le u v) 0 n (omega arith) (lowest_lt v h)

  pub lowest_one : (v w : ℕ) → v < n → w < n → So (same_class le v w) → lowest n le v ≡ lowest n le w
  lowest_one v w hv hw t = le_antisymm (half v w hv hw t) (half w v hw hv (same_class_sym le v w t))
    where
      half : (v w : ℕ) → v < n → w < n → So (same_class le v w) → lowest n le v ≤ lowest n le w
      half v w hv hw t =
          lowest_le v (lowest n le w)
          (same_class_trans (lowest n le w) w v (lowest_lt w hw) hw hv (lowest_same w hw) (same_class_sym le v w t))

  pub is_lowest_lowest : (v : ℕ) → v < n → So (is_lowest n le (lowest n le v))
  unfolding is_lowest
  is_lowest_lowest v h = eq-eqb _ _ (lowest_one (lowest n le v) v (lowest_lt v h) h (lowest_same v h))

  -- two lowest members that share a class are one
  pub is_lowest_one : (v w : ℕ) → v < n → w < n → So (is_lowest n le v) → So (is_lowest n le w) → So (same_class le v w) → v ≡ w
  unfolding is_lowest
  is_lowest_one v w hv hw p q t = sym (eqb-true _ _ p) ∙ lowest_one v w hv hw t ∙ eqb-true _ _ q

  -- ---- numbers

  pub class_count_le : class_count n le ≤ n
  unfolding class_count
  class_count_le = count_le n (is_lowest n le)

  pub representative_at : (c : ℕ) → c < class_count n le → Nth n (is_lowest n le) c (representative n le c)
  unfolding class_count representative
  representative_at c h = nth_at n (is_lowest n le) c h

  pub representative_lt : (c : ℕ) → c < class_count n le → representative n le c < n
  representative_lt c h = (representative_at c h).inside

  pub class_number_lt : (v : ℕ) → v < n → class_number n le v < class_count n le
  unfolding class_number class_count
  class_number_lt v h = count_lt n (is_lowest n le) (lowest n le v) (lowest_lt v h) (is_lowest_lowest v h)

  -- class c of v: its representative is v's lowest member
  pub representative_class : (v : ℕ) → v < n → representative n le (class_number n le v) ≡ lowest n le v
  unfolding class_number representative
  representative_class v h = nth_count n (is_lowest n le) (lowest n le v) (lowest_lt v h) (is_lowest_lowest v h)

  pub representative_same : (v : ℕ) → v < n → So (same_class le (representative n le (class_number n le v)) v)
  representative_same v h = rw (representative_class v h) (lowest_same v h)

  pub representative_one : (c d : ℕ) → c < class_count n le → d < class_count n le → representative n le c ≡ representative n le d → c ≡ d
  representative_one c d hc hd e =
      sym (representative_at c hc).number ∙ ap (λ (x : ℕ). count x (is_lowest n le)) e ∙ (representative_at d hd).number

  pub representatives_apart : (c d : ℕ) → c < class_count n le → d < class_count n le
      → So (same_class le (representative n le c) (representative n le d)) → c ≡ d
  representatives_apart c d hc hd t =
      let r = representative_at c hc in
      let s = representative_at d hd in
      representative_one c d hc hd (is_lowest_one _ _ r.inside s.inside r.passes s.passes t)

  -- a lowest member is the representative of its class
  pub representative_of : (v : ℕ) → v < n → So (is_lowest n le v) → representative n le (class_number n le v) ≡ v
  unfolding is_lowest
  representative_of v h t = representative_class v h ∙ eqb-true _ _ t

  -- two vertices have one class number exactly when they share a class
  pub class_number_same : (v w : ℕ) → v < n → w < n → (class_number n le v ≡ class_number n le w) ↔ So (same_class le v w)
  unfolding class_number
  class_number_same v w hv hw = (there, back)
    where
      there : class_number n le v ≡ class_number n le w → So (same_class le v w)
      there e =
          let q : lowest n le v ≡ lowest n le w = sym (representative_class v hv) ∙ ap (representative n le) e ∙ representative_class w hw in
          same_class_trans v (lowest n le v) w hv (lowest_lt v hv) hw (same_class_sym le (lowest n le v) v (lowest_same v hv))
          (rw q (lowest_same w hw))

      back : So (same_class le v w) → class_number n le v ≡ class_number n le w
      back t = ap (λ (x : ℕ). count x (is_lowest n le)) (lowest_one v w hv hw t)

  -- classes are numbered by their lowest member: the numbers ascend with it
  pub representative_ascends : (c d : ℕ) → c < d → d < class_count n le → representative n le c < representative n le d
  representative_ascends c d l hd =
      let x = representative n le c in
      let y = representative n le d in
      let r = representative_at c (omega arith) in
      let s = representative_at d hd in
      elim (dec_lt x y) [ yes h ↦ h | no m ↦ absurd (omega (arith, count_grows y x (is_lowest n le) (omega arith), r.number, s.number)) ]
