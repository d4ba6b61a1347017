-- The steps of the search for a wrong run keep what is known, and each lowers the number of steps left, which is 2n at the start.
use Rattle.std.specs.Prelude.{◌≡◌, ◌≢◌, Bool, false, List, ltb}
use Rattle.std.proofs.Math.Path.{refl, sym, ap}
use Rattle.std.proofs.Common.{◌∙◌}
use Rattle.std.proofs.Math.Bool.{not, So, cond}
use Prim.Native.Nat.{ℕ, zero, suc, ◌+◌, ◌-◌, ◌*◌, ◌≤◌, ◌<◌}
use Rattle.std.proofs.Math.Decide.{dec_lt, ℕ_discrete}
use native.Mathlib.Omega.{arith}
use borrow.Author.Tests.{ltb-true, lt-ltb, le-ltb, eq-eqb, ne_eqb, not-false}
use Rattle.theory.specs.Logic.Bools.{◌&◌}
use Rattle.theory.proofs.Logic.BoolsLaws.{not_in, and_one, and_out}
use Rattle.theory.specs.Logic.Range.{first}
use Rattle.theory.proofs.Logic.RangeLaws.{first_step, first_hit, first_end_lem, first_ge, first_le, first_before, first_skip}
use Rattle.large_solution.specs.Places.{end_at, place_over, run_stop, run_fails, from_last}
use Rattle.large_solution.proofs.PlacesLaws.{place_over_trans}
use Rattle.large_solution.specs.Runs.{Runs, chain_of, chain, steps_left}

module _ (g s c : List ℕ) (n : ℕ) where
  abbrev fails : ℕ → Bool
  fails k = run_fails g s c n (from_last n k)

  abbrev over : ℕ → ℕ → Bool
  over = place_over g s c n

  abbrev stop : ℕ → ℕ → ℕ
  stop = run_stop g s c n

  abbrev end : ℕ → ℕ
  end = end_at c n

  -- ---- where runs stop

  pub stop_gt : (i : ℕ) → i < stop i (i + 1)
  unfolding run_stop
  stop_gt i = omega (arith, first_ge (λ x. not (over i x)) (i + 1) n)

  pub stop_le : (i : ℕ) → i < n → stop i (i + 1) ≤ n
  unfolding run_stop
  stop_le i h = first_le (λ x. not (over i x)) (i + 1) n (omega arith)

  pub stop_over : (i u : ℕ) → i < u → u < stop i (i + 1) → So (over i u)
  unfolding run_stop
  stop_over i u a b = not-false _ (first_before (λ x. not (over i x)) (i + 1) n u (omega arith) b)

  -- a place that is over i takes its longest run along
  stop_jump : (i j : ℕ) → j < n → So (over i j) → stop i j ≡ stop i (stop j (j + 1))
  unfolding run_stop
  stop_jump i j h t = first_skip (λ x. not (over i x)) j (stop j (j + 1)) n (omega (arith, stop_gt j)) (stop_le j h) (λ u a b. ap not (go u a b))
    where
      go : (u : ℕ) → j ≤ u → u < stop j (j + 1) → So (over i u)
      go u a b = elim (ℕ_discrete u j) [
        | yes e ↦ rw e t
        | no d ↦ place_over_trans g s c n i j u t (stop_over j u (omega arith) b)
      ]

  stop_here : (i j : ℕ) → j ≤ n → ltb j n & over i j ≡ false → stop i j ≡ j
  unfolding run_stop
  stop_here i j h e = elim (dec_lt j n) [
    | yes l ↦ first_hit (λ x. not (over i x)) j n l (not_in (sym (and_one (over i j) (lt-ltb j n l)) ∙ e))
    | no l ↦ first_end_lem (λ x. not (over i x)) j n (omega arith)
  ]

  -- ---- the steps

  pub runs_start : Runs g s c n 0 n
  runs_start = record {
    passed = omega arith;
    rest = refl;
    right = λ i a h. absurd (omega arith);
    inside = omega arith;
    above = omega arith;
    stop = λ h. let e : from_last n 0 + 1 ≡ n = omega arith in ap (stop (from_last n 0)) e;
  }

  module _ (k j : ℕ) (r : Runs g s c n k j) (h : k < n) where
    abbrev i : ℕ
    i = from_last n k

    inside_i : (i < n) × (i < j) × (n ≤ i + 1 + k) × (i + (k + 1) ≡ n)
    inside_i = (omega arith, omega (arith, r.above), omega arith, omega arith)

    jump_to : So (ltb j n & over i j) → end j + 1 ≡ stop j (j + 1)
    jump_to t = r.right j r.above (ltb-true j n (and_out t).0)

    pub runs_jump : So (ltb j n & over i j) → Runs g s c n k (end j + 1)
    runs_jump t =
        let l = ltb-true j n (and_out t).0 in
        let e = jump_to t in record {
          passed = r.passed;
          rest = r.rest;
          right = r.right;
          inside = rw e (stop_le j l);
          above = omega (arith, r.above, stop_gt j);
          stop = λ q. r.stop h ∙ stop_jump i j l (and_out t).1 ∙ ap (stop i) (sym e);
        }

    -- j is the first place after i that isn't over it
    stop_is : ltb j n & over i j ≡ false → stop i (i + 1) ≡ j
    stop_is e = r.stop h ∙ stop_here i j r.inside e

    pub runs_hit : ltb j n & over i j ≡ false → end i + 1 ≢ j → k ≡ first fails 0 n
    unfolding run_fails
    runs_hit e d = sym (r.rest ∙ first_hit fails k n h (not_in (ne_eqb (end i + 1) (stop i (i + 1)) (λ q. d (q ∙ stop_is e)))))

    pub runs_next : ltb j n & over i j ≡ false → end i + 1 ≡ j → Runs g s c n (k + 1) i
    unfolding run_fails
    runs_next e q = record {
      passed = omega arith;
      rest = r.rest ∙ first_step fails k n h (ap not (eq-eqb (end i + 1) (stop i (i + 1)) right_i));
      right = λ x a l. elim (ℕ_discrete x i) [ yes y ↦ rw y right_i | no y ↦ r.right x (omega arith) l ];
      inside = omega arith;
      above = omega arith;
      stop = λ l. let y : from_last n (k + 1) + 1 ≡ i = omega arith in ap (stop (from_last n (k + 1))) y;
    }
      where
        right_i : end i + 1 ≡ stop i (i + 1)
        right_i = q ∙ sym (stop_is e)

  pub runs_end : (k j : ℕ) → Runs g s c n k j → n ≤ k → k ≡ first fails 0 n
  runs_end k j r h = sym (r.rest ∙ first_end_lem fails k n h)

  -- ---- how many

  chain_enough : (f f' j : ℕ) → n - j ≤ f → n - j ≤ f' → chain_of g s c n f j ≡ chain_of g s c n f' j
  unfolding chain_of
  chain_enough zero zero j a b = refl
  chain_enough zero (suc f') j a b = rw (le-ltb j n (omega arith))
  chain_enough (suc f) zero j a b = rw (le-ltb j n (omega arith))
  chain_enough (suc f) (suc f') j a b =
      let l = stop_gt j in
      ap (λ (x : ℕ). cond (ltb j n) (1 + x) 0) (chain_enough f f' (stop j (j + 1)) (omega arith) (omega arith))

  chain_step : (j : ℕ) → j < n → chain g s c n j ≡ 1 + chain g s c n (stop j (j + 1))
  unfolding chain chain_of
  chain_step j h =
      let e : n - j ≡ suc (n - j - 1) = omega arith in
      let l = stop_gt j in
      rw (e, lt-ltb j n h) (ap (λ (x : ℕ). 1 + x) (chain_enough (n - j - 1) (n - stop j (j + 1)) (stop j (j + 1)) (omega arith) (omega arith)))

  pub steps_start : steps_left g s c n 0 n ≡ 2 * n
  unfolding steps_left chain chain_of
  steps_start = let e : n - n ≡ 0 = omega arith in rw e (omega arith)

  pub jump_falls : (k j : ℕ) → Runs g s c n k j → (h : k < n) → So (ltb j n & over (from_last n k) j) → steps_left g s c n k (end j + 1) < steps_left g s c n k j
  unfolding steps_left
  jump_falls k j r h t =
      let e = jump_to k j r h t in
      let q = chain_step j (ltb-true j n (and_out t).0) in
      rw (e, q) (omega arith)

  pub next_falls : (k j : ℕ) → Runs g s c n k j → k < n → ltb j n & over (from_last n k) j ≡ false → steps_left g s c n (k + 1) (from_last n k) < steps_left g s c n k j
  unfolding steps_left
  next_falls k j r h e =
      let q = chain_step (from_last n k) (omega arith) in
      let z = stop_is k j r h e in
      rw (q, z) (omega arith)
