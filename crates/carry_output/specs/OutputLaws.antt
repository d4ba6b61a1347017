-- Laws of the plan that is written: its words, part by part, and rows 34 and 35 of it at each way out.
use Rattle.std.specs.Prelude.{◌≡◌, ◌⊎◌, false, List, [], ◌∷◌, ◌++◌, length, set}
use Rattle.std.proofs.Math.Path.{refl, sym}
use Rattle.std.proofs.Common.{◌∙◌, subst₂, inl, inr, append_assoc, arith, length-append}
use Rattle.std.proofs.Math.Bool.{So}
use Prim.Native.Nat.{ℕ, ◌+◌, ◌≤◌, ◌<◌}
use Rattle.std.proofs.Math.Dec.{ltb}
use Rattle.std.proofs.Math.ListN.{get_or}
use borrow.Author.Tests.{lt-ltb, le-ltb}
use Rattle.theory.specs.Logic.Bools.{◌or◌}
use Rattle.theory.proofs.Logic.BoolsLaws.{or_left, or_right}
use Rattle.theory.specs.Logic.Range.{tabulate}
use Rattle.theory.proofs.Logic.ListLaws.{length_tabulate, map_tabulate}
use Rattle.theory.specs.Plans.Plan.{Plan}
use Rattle.table.specs.Limits.{position_limit, link_limit}
use Rattle.table.specs.Placing.{placed}
use Rattle.table.specs.PlacingLaws.{written_two, written_join}
use Rattle.table.specs.Answers.{Clean, accepted, refused, judge, after, written}
use Rattle.table.specs.AnswersLaws.{judge_hit, judge_next, judge_clean, after_clean, after_refused}
use Rattle.plan_links.specs.PlanTable.{plan_length}
use Rattle.carry_search.specs.Chains.{pairs_in}
use Rattle.carry_search.specs.PairsInLaws.{length_pairs_in}
use Rattle.carry_output.specs.PlanWords.{plan_words, plan_counts, size_rows}
use Rattle.carry_output.specs.CarryParts.{plan_by, Arrived}

-- ---- the words, part by part

module _ (vertices sources targets : List ℕ) (p l : ℕ) where
  length_vertices : length (plan_by vertices sources targets p l).vertices ≡ p
  unfolding plan_by
  length_vertices = length_tabulate p (λ i. get_or vertices i 0)

  length_links : length (plan_by vertices sources targets p l).links ≡ l
  unfolding plan_by
  length_links = length_pairs_in sources targets l

  words_are : plan_words (plan_by vertices sources targets p l)
      ≡ p ∷ l ∷ (tabulate p (λ i. get_or vertices i 0) ++ (tabulate l (λ k. get_or sources k 0) ++ tabulate l (λ k. get_or targets k 0)))
  unfolding plan_words plan_by pairs_in
  words_are = rw (
    length_tabulate p (λ i. get_or vertices i 0),
    length_tabulate {A = ℕ × ℕ} l (λ k. (get_or sources k 0, get_or targets k 0)),
    map_tabulate (λ (x : ℕ × ℕ). x.0) l (λ k. (get_or sources k 0, get_or targets k 0)),
    map_tabulate (λ (x : ℕ × ℕ). x.1) l (λ k. (get_or sources k 0, get_or targets k 0)),
  ) refl

  pub plan_parts : (old o₁ o₂ o₃ o₄ : List ℕ) → plan_length p l ≤ length old → o₁ ≡ set (set old 0 p) 1 l
      → o₂ ≡ placed 2 (tabulate p (λ i. get_or vertices i 0)) o₁ → o₃ ≡ placed (2 + p) (tabulate l (λ k. get_or sources k 0)) o₂
      → o₄ ≡ placed (2 + p + l) (tabulate l (λ k. get_or targets k 0)) o₃ → o₄ ≡ written (plan_words (plan_by vertices sources targets p l)) old
  plan_parts old o₁ o₂ o₃ o₄ room q₁ q₂ q₃ q₄ =
      let vs = tabulate p (λ i. get_or vertices i 0) in
      let ss = tabulate l (λ k. get_or sources k 0) in
      let ts = tabulate l (λ k. get_or targets k 0) in
      let w₁ = p ∷ l ∷ [] in
      let w₂ = w₁ ++ vs in
      let w₃ = w₂ ++ ss in
      let lv = length_tabulate p (λ i. get_or vertices i 0) in
      let ls = length_tabulate l (λ k. get_or sources k 0) in
      let l₂ = length-append w₁ vs in
      let l₃ = length-append w₂ ss in
      let r₁ : o₁ ≡ written w₁ old = q₁ ∙ written_two p l old (omega arith) in
      let r₂ : o₂ ≡ written w₂ old = q₂ ∙ rw r₁ (written_join 2 w₁ vs old refl (omega arith)) in
      let r₃ : o₃ ≡ written w₃ old = q₃ ∙ rw r₂ (written_join (2 + p) w₂ ss old (omega arith) (omega arith)) in
      let r₄ : o₄ ≡ written (w₃ ++ ts) old = q₄ ∙ rw r₃ (written_join (2 + p + l) w₃ ts old (omega arith) (omega arith)) in
      rw words_are (r₄ ∙ simp append_assoc)

-- ---- 34 and 35

module _ (C : Plan) (output : List ℕ) where
  abbrev p : ℕ
  p = length C.vertices

  abbrev l : ℕ
  l = length C.links

  arrived_old : (k x : ℕ) → judge (size_rows C output) (plan_counts C) ≡ refused k x → Arrived (size_rows C output) (plan_counts C) (plan_words C) output (refused k x) output
  arrived_old k x e = record { verdict = sym e; output_after = sym (after_refused (size_rows C output) (plan_counts C) (plan_words C) output e) }

  pub many_refused : (position_limit < p) ⊎ (link_limit < l) → judge (size_rows C output) (plan_counts C) ≡ refused 34 0
  unfolding size_rows
  many_refused m = judge_hit _ _ (plan_counts C) (go m)
    where
      go : (position_limit < p) ⊎ (link_limit < l) → So (ltb position_limit p or ltb link_limit l)
      go (inl h) = or_left (ltb link_limit l) (lt-ltb position_limit p h)
      go (inr h) = or_right (ltb position_limit p) (lt-ltb link_limit l h)

  pub many_old : (position_limit < p) ⊎ (link_limit < l) → after (size_rows C output) (plan_words C) output ≡ output
  many_old m = after_refused (size_rows C output) (plan_counts C) (plan_words C) output (many_refused m)

  pub arrived_many : (position_limit < p) ⊎ (link_limit < l) → Arrived (size_rows C output) (plan_counts C) (plan_words C) output (refused 34 0) output
  arrived_many m = arrived_old 34 0 (many_refused m)

  module _ (few : p ≤ position_limit) (short : l ≤ link_limit) where
    within : ltb position_limit p or ltb link_limit l ≡ false
    unfolding ◌or◌
    within = rw (le-ltb position_limit p few, le-ltb link_limit l short) refl

    pub arrived_short : length output < plan_length p l → Arrived (size_rows C output) (plan_counts C) (plan_words C) output (refused 35 (plan_length p l)) output
    arrived_short h =
        arrived_old 35 (plan_length p l)
        (unfold size_rows in judge_next _ _ (plan_counts C) within ∙ judge_hit _ _ (plan_counts C) (lt-ltb (length output) (plan_length p l) h))

    pub arrived_written : plan_length p l ≤ length output → (output' : List ℕ) → output' ≡ written (plan_words C) output
        → Arrived (size_rows C output) (plan_counts C) (plan_words C) output (accepted (plan_counts C)) output'
    arrived_written h output' e =
        let clean : Clean (size_rows C output) = unfold size_rows in (within, (le-ltb (length output) (plan_length p l) h, tt)) in
        record { verdict = sym (judge_clean _ (plan_counts C) clean); output_after = e ∙ sym (after_clean _ (plan_words C) output clean) }

-- the same of a plan in memory
module _ (vertices sources targets : List ℕ) (p l : ℕ) (output : List ℕ) where
  abbrev C : Plan
  C = plan_by vertices sources targets p l

  abbrev lv : length (plan_by vertices sources targets p l).vertices ≡ p
  lv = length_vertices vertices sources targets p l

  abbrev ll : length (plan_by vertices sources targets p l).links ≡ l
  ll = length_links vertices sources targets p l

  pub found_many : (position_limit < p) ⊎ (link_limit < l) → Arrived (size_rows C output) (plan_counts C) (plan_words C) output (refused 34 0) output
  found_many m = arrived_many C output (rw (lv, ll) m)

  module _ (few : p ≤ position_limit) (short : l ≤ link_limit) where
    pub found_short : length output < plan_length p l → Arrived (size_rows C output) (plan_counts C) (plan_words C) output (refused 35 (plan_length p l)) output
    found_short h =
        subst₂ (λ (p l : ℕ). Arrived (size_rows C output) (plan_counts C) (plan_words C) output (refused 35 (plan_length p l)) output) lv ll
        (arrived_short C output (rw lv few) (rw ll short) (rw (lv, ll) h))

    pub found_written : plan_length p l ≤ length output → (output' : List ℕ) → output' ≡ written (plan_words C) output
        → Arrived (size_rows C output) (plan_counts C) (plan_words C) output (accepted (p ∷ l ∷ [])) output'
    found_written h output' e =
        subst₂ (λ (p l : ℕ). Arrived (size_rows C output) (plan_counts C) (plan_words C) output (accepted (p ∷ l ∷ [])) output') lv ll
        (arrived_written C output (rw lv few) (rw ll short) (rw (lv, ll) h) output' e)
