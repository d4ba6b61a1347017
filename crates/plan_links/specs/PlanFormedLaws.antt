-- A plan passes 12 exactly if it is well sized, and then 13 exactly if it is well formed.
use Rattle.std.specs.Prelude.{◌≡◌, refl, Bool, true, List, ℕ, ◌+◌, ◌-◌, ◌≤◌, ◌<◌, leb, length, get_or}
use Rattle.std.proofs.Common.{sym, ◌∙◌, arith}
use Rattle.std.proofs.Math.Bool.{false, So}
use Rattle.std.proofs.Math.Decide.{dec_lt}
use Rattle.std.proofs.Math.Nat.{add-sub_of_le}
use borrow.Author.Tests.{ltb-false, lt-ltb, le-ltb, leb-false, lt-leb, eqb-true, eqb-false, eq-eqb, ne_eqb, not-false}
use Rattle.theory.specs.Logic.Bools.{◌or◌}
use Rattle.theory.proofs.Logic.BoolsLaws.{clash}
use Rattle.theory.proofs.Logic.RangeLaws.{first_before, first_none}
use Rattle.table.specs.Limits.{position_limit, link_limit}
use Rattle.plan_links.specs.PlanTable.{position_count, link_count, vertex_at, link_source, link_target, plan_length, has_link}
use Rattle.plan_links.specs.PlanTableLaws.{link_out}
use Rattle.plan_links.specs.Refusals.{bad_size, beyond, first_beyond}
use Rattle.plan_links.specs.PlanFormed.{PlanSized, PlanFormed}

-- ---- 12

or_fails : (a b : Bool) → (a or b) ≡ false → (a ≡ false) × (b ≡ false)
unfolding ◌or◌
or_fails true b e = absurd (clash refl e)
or_fails false b e = (refl, e)

pub size_good : (w : List ℕ) → bad_size w ≡ false → PlanSized w
unfolding bad_size
size_good w e =
    let a = or_fails _ _ e in
    let b = or_fails _ _ a.0 in
    let c = or_fails _ _ b.0 in
    let d = or_fails _ _ c.0 in
    let some = eqb-false (position_count w) 0 d.1 in
    record {
      some = omega arith;
      positions = ltb-false position_limit (position_count w) c.1;
      links = ltb-false link_limit (link_count w) b.1;
      size = eqb-true _ _ (not-false _ a.1);
    }

pub good_size : (w : List ℕ) → PlanSized w → bad_size w ≡ false
unfolding bad_size ◌or◌
good_size w s =
    rw (
      le-ltb (length w) 2 (omega (arith, s.size, s.some)),
      ne_eqb (position_count w) 0 (omega (arith, s.some)),
      le-ltb position_limit (position_count w) s.positions,
      le-ltb link_limit (link_count w) s.links,
      eq-eqb (length w) (plan_length (position_count w) (link_count w)) s.size,
    )

-- ---- 13

module _ (n : ℕ) (w : List ℕ) where
  beyond_vertex : (i : ℕ) → i < position_count w → beyond n w (2 + i) ≡ leb n (vertex_at w i)
  unfolding beyond
  beyond_vertex i h = rw (lt-ltb (2 + i) (2 + position_count w) (omega arith))

  beyond_end : (k : ℕ) → 2 + position_count w ≤ k → beyond n w k ≡ leb (position_count w) (get_or w k 0)
  unfolding beyond
  beyond_end k h = rw (le-ltb k (2 + position_count w) h)

  pub words_good : PlanSized w → plan_length (position_count w) (link_count w) ≤ first_beyond n w → PlanFormed n w
  unfolding first_beyond
  words_good s h = record {
    sized = s;
    vertices = λ i l. leb-false n (vertex_at w i) (sym (beyond_vertex i l) ∙ before (2 + i) (omega arith) (omega arith));
    sources = λ k l. leb-false (position_count w) (link_source w k) (sym (beyond_end (2 + position_count w + k) (omega arith)) ∙ before (2 + position_count w + k) (omega arith) (omega arith));
    targets = λ k l. leb-false (position_count w) (link_target w k) (sym (beyond_end (2 + position_count w + link_count w + k) (omega arith)) ∙ before (2 + position_count w + link_count w + k) (omega arith) (omega arith));
  }
    where
      before : (k : ℕ) → 2 ≤ k → k < plan_length (position_count w) (link_count w) → beyond n w k ≡ false
      before k a b = first_before (beyond n w) 2 (plan_length (position_count w) (link_count w)) k a (omega arith)

  pub good_words : PlanFormed n w → plan_length (position_count w) (link_count w) ≤ first_beyond n w
  unfolding first_beyond
  good_words f = first_none (beyond n w) 2 (plan_length (position_count w) (link_count w)) (omega arith) within
    where
      within : (k : ℕ) → 2 ≤ k → k < plan_length (position_count w) (link_count w) → beyond n w k ≡ false
      within k a b = elim (dec_lt k (2 + position_count w)) [
        | yes l ↦ rw (← add-sub_of_le a) (beyond_vertex (k - 2) (omega arith) ∙ lt-leb n _ (f.vertices (k - 2) (omega arith)))
        | no m ↦ elim (dec_lt k (2 + position_count w + link_count w)) [
          | yes l ↦ (
              let s = 2 + position_count w in
              beyond_end k (omega arith) ∙ lt-leb (position_count w) (get_or w k 0) (rw (add-sub_of_le {n = k} {m = s} (omega arith)) at (f.sources (k - s) (omega arith))))
          | no u ↦ (
              let t = 2 + position_count w + link_count w in
              beyond_end k (omega arith) ∙ lt-leb (position_count w) (get_or w k 0) (rw (add-sub_of_le {n = k} {m = t} (omega arith)) at (f.targets (k - t) (omega arith))))
        ]
      ]

-- ---- what a well-formed plan is like

pub formed_wider : {n : ℕ} {w : List ℕ} (m : ℕ) → n ≤ m → PlanFormed n w → PlanFormed m w
formed_wider m h f = record { sized = f.sized; vertices = λ i l. omega (arith, f.vertices i l); sources = f.sources; targets = f.targets }

-- links lead from position to position
pub link_inside : {n : ℕ} {w : List ℕ} → PlanFormed n w → (i j : ℕ) → So (has_link w i j) → (i < position_count w) × (j < position_count w)
link_inside {n} {w} f i j t =
    let k = link_out w i j t in
    (rw (← k.source) (f.sources k.number k.inside), rw (← k.target) (f.targets k.number k.inside))
