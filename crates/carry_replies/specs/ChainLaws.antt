-- Laws of the chains of links: they are made from the last link back, and a walk along the chain of i finds the first good link.
use Rattle.std.specs.Prelude.{◌≡◌, refl, Bool, false, List, ℕ, ◌+◌, ◌≤◌, ◌<◌, eqb, length, get_or, set}
use Rattle.std.proofs.Common.{sym, ◌∙◌, subst, zero-le, arith, get_or-set_same, get_or-set_other}
use Rattle.std.proofs.Math.Bool.{So}
use Rattle.std.proofs.Math.Decide.{dec_lt, ℕ_discrete}
use borrow.Author.Tests.{eqb-true, eq-eqb, ne_eqb}
use Rattle.theory.specs.Logic.Bools.{◌&◌, imp}
use Rattle.theory.proofs.Logic.BoolsLaws.{and_in, and_out, imp_in, imp_out, So_not, clash}
use Rattle.theory.specs.Logic.Range.{first, tabulate}
use Rattle.theory.proofs.Logic.RangeLaws.{first_is, first_none, first_le, first_ge, first_end_lem, first_hit, first_step, first_passes, first_before}
use Rattle.theory.proofs.Logic.ListLaws.{length_tabulate, get_d_tabulate}
use Rattle.table.specs.Placing.{placed}
use Rattle.table.specs.PlacingLaws.{placed_written}
use Rattle.table.specs.AnswersLaws.{get_d_written}
use Rattle.carry_replies.specs.Replies.{LinkChains}

-- ---- the chains are made from the last link back

-- the links from k on are chained
pub record Chained (source : ℕ → ℕ) (l p : ℕ) (firsts follow : List ℕ) (k : ℕ) : Type 0 where
  pub head : (i : ℕ) → i < p → get_or firsts i 0 ≡ first (λ j. eqb (source j) i) k l
  pub next : (j : ℕ) → k ≤ j → j < l → get_or follow j 0 ≡ first (λ i. eqb (source i) (source j)) (j + 1) l

module _ (source : ℕ → ℕ) (l p : ℕ) (firsts follow : List ℕ) where
  -- none are where `firsts` is filled with the number of links
  pub chained_none : (old : List ℕ) → firsts ≡ placed 0 (tabulate p (λ i. l)) old → Chained source l p firsts follow l
  chained_none old e = record {
    head = λ i h. filled i h ∙ sym (first_end_lem (λ k. eqb (source k) i) l l (omega arith));
    next = λ j a b. absurd (omega arith);
  }
    where
      filled : (i : ℕ) → i < p → get_or firsts i 0 ≡ l
      filled i h =
          let f : ℕ → ℕ = λ i. l in
          let new = tabulate p f in
          rw (e, placed_written new old, get_d_written new old i 0 (omega (arith, length_tabulate p f))) (get_d_tabulate p f 0 i h)

  pub chained_all : Chained source l p firsts follow 0 → LinkChains source l p firsts follow
  chained_all c = record { head = c.head; next = λ k h. c.next k zero-le h }

  pub chained_more : (k : ℕ) → Chained source l p firsts follow (k + 1) → k < l → p ≤ length firsts → k < length follow → source k < p
      → Chained source l p (set firsts (source k) k) (set follow k (get_or firsts (source k) 0)) k
  chained_more k c hk hf hn hs = record {
    head = λ i h. elim (ℕ_discrete i (source k)) [
      | yes e ↦ rw (e, get_or-set_same firsts (source k) k 0 (omega arith))
          (sym (first_hit (λ j. eqb (source j) (source k)) k l hk (eq-eqb (source k) (source k) refl)))
      | no e ↦ rw (get_or-set_other firsts (source k) i k 0 e)
          (c.head i h ∙ sym (first_step (λ j. eqb (source j) i) k l hk (ne_eqb (source k) i (λ q. e (sym q)))))
    ];
    next = λ j a b. elim (ℕ_discrete j k) [
      | yes e ↦ rw (e, get_or-set_same follow k (get_or firsts (source k) 0) 0 hn) (c.head (source k) hs)
      | no e ↦ rw (get_or-set_other follow k j (get_or firsts (source k) 0) 0 e) (c.next j (omega arith) b)
    ];
  }

  -- a chain ascends
  pub chain_ascends : LinkChains source l p firsts follow → (k : ℕ) → k < l → k < get_or follow k 0
  chain_ascends chains k h = omega (arith, chains.next k h, first_ge (λ j. eqb (source j) (source k)) (k + 1) l)

-- ---- the walk along the links of i

module _ (source : ℕ → ℕ) (l : ℕ) (lone : Bool) (keeps : ℕ → Bool) (i : ℕ) where
  abbrev is_of : ℕ → Bool
  is_of k = eqb (source k) i

  -- link k is one of i, where `lone` the first, and keeps
  unfoldable pub good : ℕ → Bool
  good k = (eqb (source k) i & imp lone (eqb k (first (λ j. eqb (source j) i) 0 l))) & keeps k

  -- the walk is at link k of i, or at the end; where `lone` at the first; and nothing before k is good
  pub record Passed (k : ℕ) : Type 0 where
    pub within : k ≤ l
    pub mine : k < l → source k ≡ i
    pub lead : So lone → k ≡ first (λ j. eqb (source j) i) 0 l
    pub past : (j : ℕ) → j < k → good j ≡ false

  good_out : (k : ℕ) → So (good k) → (source k ≡ i) × (So lone → k ≡ first is_of 0 l) × So (keeps k)
  unfolding good
  good_out k t =
      let q = and_out t in
      let u = and_out q.0 in
      (eqb-true (source k) i u.0, λ o. eqb-true k _ (imp_out u.1 o), q.1)

  good_in : (k : ℕ) → source k ≡ i → (So lone → k ≡ first is_of 0 l) → So (keeps k) → So (good k)
  unfolding good
  good_in k e f t = and_in (and_in (eq-eqb (source k) i e) (imp_in (λ o. eq-eqb k _ (f o)))) t

  -- to the next link of i from a on, where nothing before a is good
  walk_on : (a : ℕ) → a ≤ l → ((j : ℕ) → j < a → good j ≡ false) → (So lone → first is_of a l ≡ first is_of 0 l) → Passed (first is_of a l)
  walk_on a h f o = record {
    within = first_le is_of a l h;
    mine = λ m. eqb-true _ i (first_passes is_of a l h m);
    lead = o;
    past = λ j m. elim (dec_lt j a) [
      | yes b ↦ f j b
      | no b ↦ So_not (λ t. clash (eq-eqb (source j) i (good_out j t).0) (first_before is_of a l j (omega arith) m))
    ];
  }

  nothing : ((j : ℕ) → j < l → good j ≡ false) → l ≡ first good 0 l
  nothing f = omega (arith, first_none good 0 l zero-le (λ j a b. f j b), first_le good 0 l zero-le)

  pub pass_hit : (k : ℕ) → k < l → Passed k → So (keeps k) → k ≡ first good 0 l
  pass_hit k h s t = sym (first_is good 0 l k zero-le h (good_in k (s.mine h) s.lead t) (λ j a b. s.past j b))

  pub pass_own : (k : ℕ) → Passed k → So lone → keeps k ≡ false → l ≡ first good 0 l
  pass_own k s o f = nothing (λ j h. So_not (λ t.
      let g = good_out j t in
      let e : j ≡ k = g.1 o ∙ sym (s.lead o) in
      clash (subst (λ (x : ℕ). So (keeps x)) e g.2) f))

  pub pass_end : (k : ℕ) → l ≤ k → Passed k → l ≡ first good 0 l
  pass_end k h s = nothing (λ j m. s.past j (omega arith))

  module _ (p : ℕ) (firsts follow : List ℕ) (chains : LinkChains source l p firsts follow) where
    pub pass_start : i < p → Passed (get_or firsts i 0)
    pass_start h = rw (chains.head i h) (walk_on 0 zero-le (λ j m. absurd (omega arith)) (λ o. refl))

    pub pass_next : (k : ℕ) → k < l → Passed k → lone ≡ false → keeps k ≡ false → Passed (get_or follow k 0)
    pass_next k h s o f =
        rw (chains.next k h, s.mine h) (walk_on (k + 1) (omega arith) (λ j m. elim (dec_lt j k) [
          | yes b ↦ s.past j b
          | no b ↦ (let e : j ≡ k = omega arith in So_not (λ t. clash (good_out k (rw e at t)).2 f))
        ]) (λ t. clash t o))
