-- Laws of a tally: it starts from counts of the links and of the sources, and takes an entry.
use Rattle.std.specs.Prelude.{◌≡◌, refl, cond, List, length, get_or, set}
use Rattle.std.proofs.Math.Path.{sym}
use Rattle.std.proofs.Common.{◌∙◌, inl, inr, add-one, get_or-set_same, get_or-set_other}
use Rattle.std.proofs.Math.Bool.{So}
use Prim.Native.Nat.{ℕ, ◌+◌, ◌≤◌, ◌<◌, max}
use Rattle.std.proofs.Math.Decide.{ℕ_discrete}
use native.Mathlib.Omega.{arith}
use Rattle.std.proofs.Math.Dec.{eqb}
use borrow.Author.Tests.{eqb-true, eq-eqb, ne_eqb}
use Rattle.theory.specs.Logic.Bools.{◌&◌}
use Rattle.theory.proofs.Logic.BoolsLaws.{decide, clash, So_ext, and_in, and_out}
use Rattle.theory.specs.Logic.Range.{first}
use Rattle.theory.proofs.Logic.RangeLaws.{first_ge, first_le, first_passes, first_hit, first_step}
use Rattle.theory.proofs.Logic.CountLaws.{count_ext, count_none}
use Rattle.theory.proofs.Logic.ListLaws.{length_tabulate}
use Rattle.table.specs.Limits.{edge_limit}
use Rattle.index.specs.Index.{from, source_count, Column}
use Rattle.edit_links.specs.Links.{pair_is, Pairs, Linked}
use Rattle.edit_trace.specs.Trace.{entries_of}
use Rattle.edit_run.specs.Turned.{turned, stepped, pair_at, edges_after}
use Rattle.edit_run.specs.TurnedLaws.{entries_tabulate, leaving_tabulate, length_turned, leaving_turned, leaving_same, entries_turned, entries_same}
use Rattle.edit_run.specs.Tally.{Tallied}

-- ---- columns

pub source_column : {S T : List ℕ} {N n m : ℕ} → Pairs S T N n → m ≤ N → m ≤ edge_limit → Column S 0 m n
source_column p h l = record {
  few = omega arith;
  inside = omega (arith, p.sources);
  below = λ j b. let q : 0 + j ≡ j = omega arith in rw q (p.source j (omega arith));
}

-- ---- pairs

module _ (S T : List ℕ) where
  abbrev s : ℕ → ℕ
  s x = get_or S x 0

  abbrev t : ℕ → ℕ
  t x = get_or T x 0

  pub own : (x : ℕ) → So (pair_is S T (s x) (t x) x)
  unfolding pair_is
  own x = and_in (eq-eqb (s x) (s x) refl) (eq-eqb (t x) (t x) refl)

  pub equal : (v w x : ℕ) → So (pair_is S T v w x) → (s x ≡ v) × (t x ≡ w)
  unfolding pair_is
  equal v w x h = let p = and_out h in (eqb-true (s x) v p.0, eqb-true (t x) w p.1)

  pub equals : (v w x : ℕ) → s x ≡ v → t x ≡ w → So (pair_is S T v w x)
  unfolding pair_is
  equals v w x a b = and_in (eq-eqb (s x) v a) (eq-eqb (t x) w b)

  pub after_next : (m i : ℕ) → edges_after S T m (i + 1) ≡ turned (edges_after S T m i) (pair_at S T (m + i))
  unfolding edges_after
  after_next m i = rw (add-one i)

  -- ---- it starts

  module _ (m N : ℕ) (few : m ≤ N) (links : List ℕ) (linked : Linked S T m N links) where
    -- where an edge's pair is an entry first
    start_link : (x : ℕ) → x < m → get_or links x 0 ≡ first (pair_is S T (s x) (t x)) m N
    start_link x h = let q : max (x + 1) m ≡ m = omega arith in rw q at (linked.at x (omega arith))

    -- the links are places, or the end
    pub link_column : m ≤ edge_limit → N ≤ length links → Column links 0 m (N + 1)
    link_column h l = record {
      few = omega arith;
      inside = omega arith;
      below = λ j b.
          let q : 0 + j ≡ j = omega arith in
          rw q (omega (arith, linked.at j (omega arith), first_le (pair_is S T (s j) (t j)) (max (j + 1) m) N (omega arith)));
    }

    pub tallied_start : (copies degrees : List ℕ) → ((v : ℕ) → get_or copies v 0 ≡ source_count (from links 0) m v)
        → ((v : ℕ) → get_or degrees v 0 ≡ source_count (from S 0) m v) → Tallied S T m N 0 copies degrees m
    unfolding edges_after source_count
    tallied_start copies degrees c d = record {
      size = sym (length_tabulate {A = ℕ × ℕ} m (pair_at S T));
      degree = λ v. d v ∙ count_ext m _ _ (λ i l. let q : 0 + i ≡ i = omega arith in rw q) ∙ sym (leaving_tabulate v m (pair_at S T));
      next = λ z a b e. c z ∙ count_ext m _ _ (λ x l. let q : 0 + x ≡ x = omega arith in rw q (same z a b e x l))
          ∙ sym (entries_tabulate (s z) (t z) m (pair_at S T));
      done = λ j l. absurd (omega arith);
      zeros = λ x l. c x ∙ count_none m _ (λ j h. ne_eqb _ x (λ e.
          let q : 0 + j ≡ j = omega arith in
          let f = rw q at e in
          absurd (omega (arith, start_link j h, first_ge (pair_is S T (s j) (t j)) m N))));
    }
      where
        same : (z : ℕ) → m + 0 ≤ z → z < N → first (pair_is S T (s z) (t z)) (m + 0) N ≡ z → (x : ℕ) → x < m
            → eqb (get_or links x 0) z ≡ (eqb (s x) (s z) & eqb (t x) (t z))
        same z a b e x l = So_ext to from₁
          where
            r : m + 0 ≡ m
            r = omega arith

            to : So (eqb (get_or links x 0) z) → So (eqb (s x) (s z) & eqb (t x) (t z))
            to h =
                let q = sym (start_link x l) ∙ eqb-true (get_or links x 0) z h in
                let p = equal (s x) (t x) z (rw q at (first_passes (pair_is S T (s x) (t x)) m N few (omega arith))) in
                and_in (eq-eqb (s x) (s z) (sym p.0)) (eq-eqb (t x) (t z) (sym p.1))

            from₁ : So (eqb (s x) (s z) & eqb (t x) (t z)) → So (eqb (get_or links x 0) z)
            from₁ h =
                let p = and_out h in
                eq-eqb (get_or links x 0) z (start_link x l ∙ rw (eqb-true (s x) (s z) p.0, eqb-true (t x) (t z) p.1) (rw r at e))

    -- ---- it takes an entry

    module _ (i : ℕ) (below : m + i < N) (copies degrees : List ℕ) (edges : ℕ) (tally : Tallied S T m N i copies degrees edges)
        (long : N < length copies) (wide : s (m + i) < length degrees) where
      abbrev y : ℕ
      y = m + i

      abbrev c : ℕ
      c = get_or copies y 0

      abbrev es : List (ℕ × ℕ)
      es = edges_after S T m i

      abbrev link : ℕ
      link = get_or links y 0

      link_is : link ≡ first (pair_is S T (s y) (t y)) (y + 1) N
      link_is = let q : max (y + 1) m ≡ y + 1 = omega arith in rw q at (linked.at y below)

      link_low : y < link
      link_low = omega (arith, link_is, first_ge (pair_is S T (s y) (t y)) (y + 1) N)

      pub link_high : link ≤ N
      link_high = omega (arith, link_is, first_le (pair_is S T (s y) (t y)) (y + 1) N (omega arith))

      pub here : c ≡ entries_of (s y) (t y) es
      here = tally.next y (omega arith) below (first_hit (pair_is S T (s y) (t y)) y N below (own y))

      next_copies : (z : ℕ) → m + (i + 1) ≤ z → z < N → first (pair_is S T (s z) (t z)) (m + (i + 1)) N ≡ z
          → get_or (set copies link (cond (eqb c 0) 1 0)) z 0 ≡ entries_of (s z) (t z) (turned es (pair_at S T y))
      next_copies z a b e = elim (decide (pair_is S T (s z) (t z) y)) [
        | inl h ↦ (
            let p = equal (s z) (t z) y h in
            let q : link ≡ z = link_is ∙ rw (p.0, p.1) f in
            rw (q, get_or-set_same copies z (cond (eqb c 0) 1 0) 0 (omega arith), here, ← p.0, ← p.1) (sym (entries_turned es (pair_at S T y))))
        | inr h ↦ (
            let d : z ≡ link → ⊥ = λ q. clash (equals (s z) (t z) y (sym (other q).0) (sym (other q).1)) h in
            rw (get_or-set_other copies link z (cond (eqb c 0) 1 0) 0 d)
            (tally.next z (omega arith) b (first_step (pair_is S T (s z) (t z)) y N below h ∙ f)
            ∙ sym (entries_same es (pair_at S T y) (s z) (t z) (unfold pair_is in h))))
      ]
        where
          f : first (pair_is S T (s z) (t z)) (y + 1) N ≡ z
          f = let r : m + (i + 1) ≡ y + 1 = omega arith in rw r at e

          other : z ≡ link → (s z ≡ s y) × (t z ≡ t y)
          other q = equal (s y) (t y) z
              (let k = sym link_is ∙ sym q in rw k at (first_passes (pair_is S T (s y) (t y)) (y + 1) N (omega arith) (omega (arith, k, b))))

      pub tallied_more : Tallied S T m N (i + 1) (set copies link (cond (eqb c 0) 1 0)) (set degrees (s y) (stepped (get_or degrees (s y) 0) c)) (stepped edges c)
      tallied_more = record {
        size = rw (after_next m i, tally.size, here) (sym (length_turned es (pair_at S T y)));
        degree = λ v. rw (after_next m i) (elim (ℕ_discrete v (s y)) [
          | yes e ↦ rw (e, get_or-set_same degrees (s y) (stepped (get_or degrees (s y) 0) c) 0 wide, tally.degree (s y), here)
              (sym (leaving_turned es (pair_at S T y)))
          | no d ↦ rw (get_or-set_other degrees (s y) v (stepped (get_or degrees (s y) 0) c) 0 d) (tally.degree v ∙ sym (leaving_same es (pair_at S T y) v d))
        ]);
        next = λ z a b e. rw (after_next m i) (next_copies z a b e);
        done = λ j l. rw (get_or-set_other copies link (m + j) (cond (eqb c 0) 1 0) 0 (λ e. omega (arith, link_low))) (elim (ℕ_discrete j i) [
          | yes e ↦ rw e here
          | no d ↦ tally.done j (omega arith)
        ]);
        zeros = λ x l. rw (get_or-set_other copies link x (cond (eqb c 0) 1 0) 0 (λ e. omega (arith, link_low))) (tally.zeros x l);
      }
