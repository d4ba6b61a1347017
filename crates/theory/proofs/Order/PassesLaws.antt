-- Passes over any test: marks only fall, so the passes settle; what is left is the largest set inside the start set on which the test
-- holds. Each pass before the last loses a mark, which bounds their count.
use Rattle.std.specs.Prelude.{◌≡◌, refl, Bool, true, length}
use Rattle.std.proofs.Common.{sym, ◌∙◌, arith}
use Rattle.std.proofs.Math.Path.{ap, subst₂}
use Rattle.std.proofs.Math.Bool.{false, So}
use Prim.Native.Nat.{ℕ, zero, suc, ◌+◌, ◌*◌, ◌/◌, ◌%◌, ◌≤◌, ◌<◌}
use Rattle.std.proofs.Math.Arith.{digits_lt, digits_div, digits_mod}
use Rattle.theory.specs.Logic.Bools.{◌&◌, imp}
use Rattle.theory.proofs.Logic.BoolsLaws.{and_in, and_out, and_fails, imp_out, imp_fails}
use Rattle.theory.specs.Logic.Range.{count}
use Rattle.theory.proofs.Logic.RangeLaws.{all_out, all_fails, all_ext, first_before, first_passes, first_ext}
use Rattle.theory.proofs.Logic.CountLaws.{count_all, count_le, count_mono, count_less, count_inject, row_lt, col_lt, digits_one}
use Rattle.theory.proofs.Logic.ListLaws.{length_tabulate, get_d_tabulate, tabulate_ext}
use Rattle.theory.specs.Order.Passes.{marked, Test, next_pass, pass, settled, rounds, pass_count, final_marks, Rel, rel_of, pair_start, pair_test, largest}

module _ (N : ℕ) (ok : Test) (start : ℕ → Bool) where
  pub length_pass : (k : ℕ) → length (pass N ok start k) ≡ N
  unfolding pass next_pass
  length_pass zero = length_tabulate N start
  length_pass (suc k) = length_tabulate N _

  pub length_final_marks : length (final_marks N ok start) ≡ N
  unfolding final_marks
  length_final_marks = length_pass (rounds N ok start)

  pub pass_zero : (i : ℕ) → i < N → marked (pass N ok start zero) i ≡ start i
  unfolding pass
  pass_zero i h = get_d_tabulate N start false i h

  pub pass_suc : (k i : ℕ) → i < N → marked (pass N ok start (suc k)) i ≡ marked (pass N ok start k) i & ok (marked (pass N ok start k)) i
  unfolding pass next_pass
  pass_suc k i h = get_d_tabulate N _ false i h

  -- ---- marks only fall

  pub pass_falls : (k i : ℕ) → i < N → So (marked (pass N ok start (suc k)) i) → So (marked (pass N ok start k) i)
  pass_falls k i h t = (and_out (rw (pass_suc k i h) at t)).0

  pub pass_start : (k i : ℕ) → i < N → So (marked (pass N ok start k) i) → So (start i)
  pass_start zero i h t = rw (pass_zero i h) at t
  pass_start (suc k) i h t = pass_start k i h (pass_falls k i h t)

  -- a pass that is not the last loses a mark
  pass_less : (k : ℕ) → settled N ok (pass N ok start k) ≡ false → count N (marked (pass N ok start (suc k))) < count N (marked (pass N ok start k))
  unfolding settled
  pass_less k e =
      let x = all_fails N _ e in
      let y = imp_fails _ _ x.2 in
      count_less N (marked (pass N ok start (suc k))) (marked (pass N ok start k)) (pass_falls k) x.0 x.1
      (pass_suc k x.0 x.1 ∙ and_fails _ _ y.1) y.0

  -- k passes lose k marks
  pass_count_lem : (k : ℕ) → ((j : ℕ) → j < k → settled N ok (pass N ok start j) ≡ false) → count N (marked (pass N ok start k)) + k ≤ count N start
  pass_count_lem zero f = omega (arith, count_mono N (marked (pass N ok start zero)) start (pass_start zero))
  pass_count_lem (suc k) f =
      let a = pass_count_lem k (λ j h. f j (omega arith)) in
      let b = pass_less k (f k (omega arith)) in
      omega arith

  unsettled : (j : ℕ) → j < rounds N ok start → settled N ok (pass N ok start j) ≡ false
  unfolding rounds
  unsettled j h = first_before _ 0 _ j (omega arith) h

  -- the count minus one is at most the marks at the start minus those at the end
  pub rounds_marks : rounds N ok start + count N (marked (final_marks N ok start)) ≤ count N start
  unfolding final_marks
  rounds_marks = omega (arith, pass_count_lem (rounds N ok start) unsettled)

  pub rounds_le : rounds N ok start ≤ N
  rounds_le = omega (arith, rounds_marks, count_le N start)

  -- ---- the result is a fixed point

  final_settled : So (settled N ok (final_marks N ok start))
  unfolding final_marks rounds
  final_settled = first_passes (λ k. settled N ok (pass N ok start k)) 0 (suc N) (omega arith) (omega (arith, rounds_le))

  pub final_fixed : (i : ℕ) → i < N → So (marked (final_marks N ok start) i) → So (ok (marked (final_marks N ok start)) i)
  unfolding settled
  final_fixed i h t = imp_out ((all_out final_settled).at i h) t

  pub final_start : (i : ℕ) → i < N → So (marked (final_marks N ok start) i) → So (start i)
  unfolding final_marks
  final_start = pass_start (rounds N ok start)

  -- ---- and the largest: H may be any type at each index; it is enough that the test holds on H whatever marks contain H

  module _ (H : ℕ → Type 0) (inside : (i : ℕ) → i < N → H i → So (start i))
      (holds : (m : ℕ → Bool) → ((j : ℕ) → j < N → H j → So (m j)) → (i : ℕ) → i < N → H i → So (ok m i)) where
    pass_contains : (k i : ℕ) → i < N → H i → So (marked (pass N ok start k) i)
    pass_contains zero i h t = rw (pass_zero i h) (inside i h t)
    pass_contains (suc k) i h t =
        rw (pass_suc k i h) (and_in (pass_contains k i h t) (holds (marked (pass N ok start k)) (pass_contains k) i h t))

    pub final_contains : (i : ℕ) → i < N → H i → So (marked (final_marks N ok start) i)
    unfolding final_marks
    final_contains = pass_contains (rounds N ok start)

-- ---- passes go by the values of the test and of the start set

module _ (N : ℕ) (ok ok' : Test) (start start' : ℕ → Bool)
    (starts : (i : ℕ) → i < N → start i ≡ start' i) (tests : (m : ℕ → Bool) (i : ℕ) → i < N → ok m i ≡ ok' m i) where
  pass_ext : (k : ℕ) → pass N ok start k ≡ pass N ok' start' k
  unfolding pass next_pass
  pass_ext zero = tabulate_ext N start start' starts
  pass_ext (suc k) = tabulate_ext N _ _ (λ i h. ap (◌&◌ (marked (pass N ok start k) i)) (tests (marked (pass N ok start k)) i h)) ∙ ap (next_pass N ok') (pass_ext k)

  settled_ext : (k : ℕ) → settled N ok (pass N ok start k) ≡ settled N ok' (pass N ok' start' k)
  unfolding settled
  settled_ext k = all_ext N _ _ (λ i h. ap (imp (marked (pass N ok start k) i)) (tests (marked (pass N ok start k)) i h)) ∙ ap (settled N ok') (pass_ext k)

  rounds_ext : rounds N ok start ≡ rounds N ok' start'
  unfolding rounds
  rounds_ext = first_ext _ _ 0 (suc N) (λ k l h. settled_ext k)

  pub pass_count_ext : pass_count N ok start ≡ pass_count N ok' start'
  unfolding pass_count
  pass_count_ext = ap suc rounds_ext

  pub final_marks_ext : final_marks N ok start ≡ final_marks N ok' start'
  unfolding final_marks
  final_marks_ext = pass_ext (rounds N ok start) ∙ ap (pass N ok' start') rounds_ext

-- ---- the same over pairs of a number below n₁ and one below n₂

module _ (n₁ n₂ : ℕ) (test : Rel → Rel) (start : Rel) where
  pub largest_start : (v w : ℕ) → v < n₁ → w < n₂ → So (largest n₁ n₂ test start v w) → So (start v w)
  unfolding largest rel_of pair_start
  largest_start v w hv hw t =
      subst₂ (λ (x y : ℕ). So (start x y)) (digits_div v hw) (digits_mod v hw)
      (final_start (n₁ * n₂) (pair_test n₂ test) (pair_start n₂ start) (v * n₂ + w) (digits_lt hv hw) t)

  pub largest_fixed : (v w : ℕ) → v < n₁ → w < n₂ → So (largest n₁ n₂ test start v w) → So (test (largest n₁ n₂ test start) v w)
  unfolding largest rel_of pair_test
  largest_fixed v w hv hw t =
      subst₂ (λ (x y : ℕ). So (test (largest n₁ n₂ test start) x y)) (digits_div v hw) (digits_mod v hw)
      (final_fixed (n₁ * n₂) (pair_test n₂ test) (pair_start n₂ start) (v * n₂ + w) (digits_lt hv hw) t)

  pub largest_contains : (H : ℕ → ℕ → Type 0)
      → ((v w : ℕ) → v < n₁ → w < n₂ → H v w → So (start v w))
      → ((m : Rel) → ((x y : ℕ) → x < n₁ → y < n₂ → H x y → So (m x y)) → (v w : ℕ) → v < n₁ → w < n₂ → H v w → So (test m v w))
      → (v w : ℕ) → v < n₁ → w < n₂ → H v w → So (largest n₁ n₂ test start v w)
  unfolding largest rel_of pair_test pair_start
  largest_contains H inside holds v w hv hw r =
      final_contains (n₁ * n₂) (pair_test n₂ test) (pair_start n₂ start) (λ i. H (i / n₂) (i % n₂))
      (λ i h t. inside (i / n₂) (i % n₂) (row_lt n₁ n₂ i h) (col_lt n₁ n₂ i h) t)
      (λ m c i h t.
      holds (rel_of n₂ m) (λ x y hx hy q. c (x * n₂ + y) (digits_lt hx hy) (split x y hy q)) (i / n₂) (i % n₂) (row_lt n₁ n₂ i h) (col_lt n₁ n₂ i h) t)
      (v * n₂ + w) (digits_lt hv hw) (split v w hw r)
    where
      split : (x y : ℕ) → y < n₂ → H x y → H ((x * n₂ + y) / n₂) ((x * n₂ + y) % n₂)
      split x y hy q = subst₂ (λ (a b : ℕ). H a b) (sym (digits_div x hy)) (sym (digits_mod x hy)) q

-- where the diagonal stays, at most n × n - n + 1 passes
pub passes_le : (n : ℕ) (test : Rel → Rel) (start : Rel) → ((v : ℕ) → v < n → So (largest n n test start v v))
    → pass_count (n * n) (pair_test n test) (pair_start n start) + n ≤ suc (n * n)
unfolding pass_count largest rel_of
passes_le n test start diagonal =
    let N : ℕ = n * n in
    let ok = pair_test n test in
    let init = pair_start n start in
    let kept : n ≤ count N (marked (final_marks N ok init)) =
    rw (count_all n) at
    (count_inject n N (λ v. true) (marked (final_marks N ok init)) (λ v i. v * n + v ≡ i)
    (λ v h t. (v * n + v, digits_lt h h, diagonal v h, refl))
    (λ v v' i h h' k e e'. (digits_one h h' (e ∙ sym e')).0)) in
    omega (arith, rounds_marks N ok init, count_le N init)
