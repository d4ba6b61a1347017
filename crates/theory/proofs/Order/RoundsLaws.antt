-- Rounds are passes: a relation that starts as the passes do and keeps in each round what passes the test is the relation after that pass
-- (`after_start`, `after_next`); where a round keeps all, the passes end with it (`last_passes`, `last_marks`). A round keeps all where no pair
-- that it takes out is counted (`cleared_none`, `cleared_some`).
use Rattle.std.specs.Prelude.{◌≡◌, Bool, true, false}
use Rattle.std.proofs.Math.Path.{refl, sym, subst₂}
use Rattle.std.proofs.Common.{ap₂, ◌∙◌, div-add-mod', add-one}
use Rattle.std.proofs.Math.Logic.{inl, inr}
use Rattle.std.proofs.Math.Bool.{not, So}
use Prim.Native.Nat.{ℕ, zero, suc, ◌+◌, ◌*◌, ◌/◌, ◌%◌, ◌≤◌, ◌<◌}
use native.Mathlib.Omega.{arith}
use Rattle.std.proofs.Math.Arith.{digits_lt, digits_div, digits_mod}
use Rattle.theory.specs.Logic.Bools.{◌&◌, bit}
use Rattle.theory.proofs.Logic.BoolsLaws.{decide, clash, So_not, not_out, and_in, and_out, imp_in, imp_out}
use Rattle.theory.specs.Logic.Range.{any_below, first, sum}
use Rattle.theory.proofs.Logic.RangeLaws.{any_out, any_fails, all_in, all_out, first_step, first_hit, first_ge}
use Rattle.theory.proofs.Logic.CountLaws.{count_ext, count_both, count_none, count_le, count_lt, row_lt, col_lt}
use Rattle.theory.specs.Order.Passes.{Test, Rel, marked, rel_of, pass, settled, rounds, pass_count, final_marks, pair_test, pair_start, largest}
use Rattle.theory.proofs.Order.PassesLaws.{pass_zero, pass_suc, rounds_le, largest_fixed}
use Rattle.theory.specs.Order.Rounds.{relation_size, cleared, after_pass, cleared_by, AfterPass}

-- ---- the pairs that a round takes out

parts : (a b : Bool) → (So b → So a) → bit (a & not b) + bit b ≡ bit a
unfolding ◌&◌ bit
parts true true f = refl
parts true false f = refl
parts false true f = clash (f refl) refl
parts false false f = refl

module _ (n : ℕ) (H H' : Rel) where
  -- none is counted: none is there
  pub cleared_none : cleared n H H' ≡ 0 → (v w : ℕ) → v < n → w < n → H v w & not (H' v w) ≡ false
  unfolding cleared
  cleared_none e v w hv hw = So_not (λ t.
      let c = count_lt (n * n) (λ i. H (i / n) (i % n) & not (H' (i / n) (i % n))) (v * n + w) (digits_lt hv hw)
      (rw (digits_div v hw, digits_mod v hw) t) in
      omega (arith, c, e))

  -- some is counted: one is there
  pub cleared_some : (cleared n H H' ≡ 0 → ⊥) → (v w : ℕ) × (v < n) × (w < n) × So (H v w & not (H' v w))
  unfolding cleared
  cleared_some d = elim (decide (any_below (n * n) (λ i. H (i / n) (i % n) & not (H' (i / n) (i % n))))) [
    | inl t ↦ (let r = any_out t in (r.0 / n, r.0 % n, row_lt n n r.0 r.1, col_lt n n r.0 r.1, r.2))
    | inr f ↦ absurd (d (count_none (n * n) _ (any_fails (n * n) _ f)))
  ]

  pub cleared_le : cleared n H H' ≤ n * n
  unfolding cleared
  cleared_le = count_le (n * n) _

  -- H is what is left and what is taken out
  pub cleared_adds : ((v w : ℕ) → v < n → w < n → So (H' v w) → So (H v w)) → cleared n H H' + relation_size n H' ≡ relation_size n H
  unfolding cleared relation_size
  cleared_adds f = count_both (n * n) _ _ _ (λ i h. parts (H (i / n) (i % n)) (H' (i / n) (i % n)) (f (i / n) (i % n) (row_lt n n i h) (col_lt n n i h)))

-- it goes by the pairs alone
pub cleared_same : (n : ℕ) (H K H' K' : Rel) → ((v w : ℕ) → v < n → w < n → H v w ≡ K v w) → ((v w : ℕ) → v < n → w < n → H' v w ≡ K' v w)
    → cleared n H H' ≡ cleared n K K'
unfolding cleared
cleared_same n H K H' K' e f =
    count_ext (n * n) _ _ (λ i h.
    let v = row_lt n n i h in
    let w = col_lt n n i h in
    ap₂ (λ a b. a & not b) (e (i / n) (i % n) v w) (f (i / n) (i % n) v w))

module _ (n : ℕ) (test : Rel → Rel) (start : Rel)
    (same_test : (H K : Rel) (v w : ℕ) → ((x y : ℕ) → x < n → y < n → H x y ≡ K x y) → test H v w ≡ test K v w) where
  abbrev N : ℕ
  N = n * n

  abbrev ok : Test
  ok = pair_test n test

  abbrev begin : ℕ → Bool
  begin = pair_start n start

  -- ---- the relation after a pass, pair by pair

  after_zero : (v w : ℕ) → v < n → w < n → after_pass n test start 0 v w ≡ start v w
  unfolding after_pass rel_of pair_start
  after_zero v w hv hw = pass_zero N ok begin (v * n + w) (digits_lt hv hw) ∙ rw (digits_div v hw, digits_mod v hw)

  after_suc : (k v w : ℕ) → v < n → w < n
      → after_pass n test start (suc k) v w ≡ after_pass n test start k v w & test (after_pass n test start k) v w
  unfolding after_pass rel_of pair_test
  after_suc k v w hv hw = pass_suc N ok begin k (v * n + w) (digits_lt hv hw) ∙ rw (digits_div v hw, digits_mod v hw)

  -- ---- what each pass clears

  -- the marks of pass 0 are what the first k passes clear, and what is left
  pub passes_add : (k : ℕ) → sum k (cleared_by n test start) + relation_size n (after_pass n test start k) ≡ relation_size n start
  unfolding sum cleared_by relation_size
  passes_add zero = omega (arith, count_ext N _ _ (λ i h. after_zero (i / n) (i % n) (row_lt n n i h) (col_lt n n i h)))
  passes_add (suc k) =
      omega (
        arith,
        passes_add k,
        cleared_adds n (after_pass n test start k) (after_pass n test start (suc k))
            (λ v w hv hw t. (and_out (sym (after_suc k v w hv hw) ∙ t)).0),
      )

  -- what the passes leave passes
  left_passes : (v w : ℕ) → v < n → w < n → So (after_pass n test start (rounds N ok begin) v w)
      → So (test (after_pass n test start (rounds N ok begin)) v w)
  unfolding after_pass largest final_marks
  left_passes v w hv hw t = largest_fixed n n test start v w hv hw t

  -- the last pass clears none
  pub last_clears : cleared_by n test start (rounds N ok begin) ≡ 0
  unfolding cleared_by cleared
  last_clears = count_none N _ (λ i h. So_not (λ t.
      let v = row_lt n n i h in
      let w = col_lt n n i h in
      let a = and_out t in
      clash (after_suc (rounds N ok begin) (i / n) (i % n) v w ∙ and_in a.0 (left_passes (i / n) (i % n) v w a.0))
      (not_out a.1)))

  -- the marks of pass 0 are what all passes clear, and what they leave
  pub counts_add : sum (pass_count N ok begin) (cleared_by n test start) + relation_size n (largest n n test start) ≡ relation_size n start
  unfolding sum pass_count largest final_marks after_pass
  counts_add = omega (arith, passes_add (rounds N ok begin), last_clears)

  -- pair i of the marks
  after_pair : (k i : ℕ) → marked (pass N ok begin k) i ≡ after_pass n test start k (i / n) (i % n)
  unfolding after_pass rel_of
  after_pair k i = rw (div-add-mod' i n)

  -- pass k + 1 unmarks nothing exactly if all that pass k left passes
  settled_out : (k : ℕ) → So (settled N ok (pass N ok begin k)) → (v w : ℕ) → v < n → w < n
      → So (after_pass n test start k v w) → So (test (after_pass n test start k) v w)
  unfolding settled pair_test after_pass rel_of
  settled_out k s v w hv hw t =
      subst₂ (λ (x y : ℕ). So (test (rel_of n (marked (pass N ok begin k))) x y)) (digits_div v hw) (digits_mod v hw)
      (imp_out ((all_out s).at (v * n + w) (digits_lt hv hw)) t)

  settled_in : (k : ℕ) → ((v w : ℕ) → v < n → w < n → So (after_pass n test start k v w) → So (test (after_pass n test start k) v w))
      → So (settled N ok (pass N ok begin k))
  unfolding settled pair_test
  settled_in k f = all_in N _ (λ i h. imp_in (λ t.
      unfold after_pass in f (i / n) (i % n) (row_lt n n i h) (col_lt n n i h) (sym (after_pair k i) ∙ t)))

  -- ---- rounds

  pub after_start : (H : Rel) → ((v w : ℕ) → v < n → w < n → H v w ≡ start v w) → AfterPass n test start 0 H
  unfolding rounds
  after_start H e = record { same = λ v w hv hw. e v w hv hw ∙ sym (after_zero v w hv hw); few = omega arith; rest = refl }

  module _ (k : ℕ) (H : Rel) (p : AfterPass n test start k H) where
    tested : (v w : ℕ) → test H v w ≡ test (after_pass n test start k) v w
    tested v w = same_test H (after_pass n test start k) v w p.same

    -- all of H passes: the next pass is the last
    module _ (all : (v w : ℕ) → v < n → w < n → So (H v w) → So (test H v w)) where
      last_round : rounds N ok begin ≡ k
      last_round =
          p.rest
          ∙ first_hit _ k (suc N) (omega (arith, p.few))
          (settled_in k (λ v w hv hw t. sym (tested v w) ∙ all v w hv hw (p.same v w hv hw ∙ t)))

      pub last_passes : k + 1 ≡ pass_count N ok begin
      unfolding pass_count
      last_passes = rw last_round (add-one k)

      pub last_marks : (v w : ℕ) → v < n → w < n → H v w ≡ marked (final_marks N ok begin) (v * n + w)
      unfolding final_marks after_pass rel_of
      last_marks v w hv hw = rw last_round (p.same v w hv hw)

    -- a round that keeps what passes clears as many marks as the pass after pass k
    pub round_clears : (H' : Rel) → ((v w : ℕ) → v < n → w < n → H' v w ≡ H v w & test H v w) → cleared n H H' ≡ cleared_by n test start k
    unfolding cleared_by
    round_clears H' left =
        cleared_same n H (after_pass n test start k) H' (after_pass n test start (suc k)) p.same
        (λ v w hv hw. left v w hv hw ∙ rw (tested v w, p.same v w hv hw) (sym (after_suc k v w hv hw)))

    -- H' is what passes, and some pair of H doesn't: one pass more, and not the last
    pub after_next : (H' : Rel) → ((v w : ℕ) → v < n → w < n → H' v w ≡ H v w & test H v w)
        → (v w : ℕ) → v < n → w < n → So (H v w) → test H v w ≡ false → AfterPass n test start (k + 1) H'
    after_next H' left v w hv hw t f = record { same = same; few = few; rest = rest }
      where
        same : (v w : ℕ) → v < n → w < n → H' v w ≡ after_pass n test start (k + 1) v w
        same v w hv hw = rw (add-one k) (left v w hv hw ∙ rw (tested v w, p.same v w hv hw) (sym (after_suc k v w hv hw)))

        goes_on : settled N ok (pass N ok begin k) ≡ false
        goes_on = So_not (λ s. clash (tested v w ∙ settled_out k s v w hv hw (sym (p.same v w hv hw) ∙ t)) f)

        rest : rounds N ok begin ≡ first (λ j. settled N ok (pass N ok begin j)) (k + 1) (suc N)
        rest = p.rest ∙ first_step _ k (suc N) (omega (arith, p.few)) goes_on

        few : k + 1 ≤ N
        few = omega (arith, rounds_le N ok begin, first_ge (λ j. settled N ok (pass N ok begin j)) (k + 1) (suc N), rest)
