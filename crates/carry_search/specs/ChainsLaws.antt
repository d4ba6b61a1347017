-- Laws of the chains of pairs: the hash, the walk along one, and a pair more.
use Rattle.std.specs.Prelude.{◌≡◌, refl, Bool, false, List, [], ◌∷◌, ◌++◌, length}
use Rattle.std.proofs.Math.Path.{sym}
use Rattle.std.proofs.Common.{ap, ◌∙◌, add-one}
use Rattle.std.proofs.Math.Bool.{cond}
use Prim.Native.Nat.{ℕ, suc, ◌+◌, ◌-◌, ◌≤◌, ◌<◌, zero-le}
use Rattle.std.proofs.Math.Decide.{dec_lt, ℕ_discrete}
use native.Mathlib.Omega.{arith}
use Rattle.std.proofs.Math.Dec.{eqb}
use Rattle.std.proofs.Math.ListN.{get_or}
use Rattle.std.proofs.Math.Seq.{get_or-set_same, get_or-set_other}
use borrow.Author.Tests.{eqb-true, eq-eqb, ne_eqb, le-ltb}
use Rattle.theory.proofs.Logic.BoolsLaws.{So_not, clash}
use Rattle.theory.proofs.Logic.RangeLaws.{below_suc, first_le, first_is, first_none}
use Rattle.theory.specs.Carry.BreadthFirst.{is_at, number_of}
use Rattle.theory.proofs.Carry.BreadthFirstLaws.{is_at_out, grown}
use Rattle.table.specs.Limits.{position_limit}
use Rattle.carry_search.specs.LastBelow.{last}
use Rattle.carry_search.specs.LastBelowLaws.{last_ext, last_is}
use Rattle.carry_search.specs.Chains.{pairs_in, chain_of, chain_at, Chains, Held, Added}
use Rattle.carry_search.specs.PairsInLaws.{length_pairs_in, here, not_here, pairs_in_push}

-- ---- the hash

pub chain_lt : (i u : ℕ) → chain_of i u < position_limit
unfolding chain_of
chain_lt i u = omega arith

-- with the vertex it tells the position: both positions are below the number of chains
pub chain_one : (i j u : ℕ) → i < position_limit → j < position_limit → chain_of i u ≡ chain_of j u → i ≡ j
unfolding chain_of
chain_one i j u hi hj e = omega (arith, e)

-- ---- the walk along a chain

-- c is a place of the chain of (i, u), or its end; and the pair isn't from c on
pub record Walked (olds vertices : List ℕ) (pairs i u c : ℕ) : Type 0 where
  pub within : c ≤ pairs
  pub mine : 0 < c → chain_at olds vertices (c - 1) ≡ chain_of i u
  pub past : (k : ℕ) → c ≤ k → k < pairs → is_at (pairs_in olds vertices pairs) i u k ≡ false

module _ (olds vertices heads nexts : List ℕ) (pairs : ℕ) (held : Held olds vertices heads nexts pairs) where
  -- the chain goes back
  pub walk_less : (c : ℕ) → 0 < c → c ≤ pairs → get_or nexts (c - 1) 0 < c
  walk_less c h l =
      let k : ℕ = c - 1 in
      omega (arith, held.chains.next k (omega arith), (last_is (λ j. eqb (chain_at olds vertices j) (chain_at olds vertices k)) k).within)

  module _ (i u : ℕ) where
    walk_to : (n : ℕ) → n ≤ pairs → ((k : ℕ) → n ≤ k → k < pairs → is_at (pairs_in olds vertices pairs) i u k ≡ false)
        → Walked olds vertices pairs i u (last (λ k. eqb (chain_at olds vertices k) (chain_of i u)) n)
    walk_to n h f =
        let p : ℕ → Bool = λ k. eqb (chain_at olds vertices k) (chain_of i u) in
        let l = last_is p n in record {
          within = omega (arith, l.within);
          mine = λ t. eqb-true (chain_at olds vertices (last p n - 1)) (chain_of i u) (l.passes t);
          past = λ k a b. elim (dec_lt k n) [
            | yes c ↦ not_here olds vertices pairs i u k b (λ e g. clash (eq-eqb (chain_at olds vertices k) (chain_of i u) cc) (l.after k a c))
            | no c ↦ f k (omega arith) b
          ];
        }

    pub walk_start : Walked olds vertices pairs i u (get_or heads (chain_of i u) 0)
    walk_start = rw (held.chains.head (chain_of i u) (chain_lt i u)) (walk_to pairs (omega arith) (λ k a b. absurd (omega arith)))

    pub walk_next : (c : ℕ) → 0 < c → Walked olds vertices pairs i u c → (get_or vertices (c - 1) 0 ≡ u → ⊥)
        → Walked olds vertices pairs i u (get_or nexts (c - 1) 0)
    walk_next c h w other =
        let k : ℕ = c - 1 in
        let l : k < pairs = omega (arith, w.within) in
        rw (held.chains.next k l, w.mine h) (walk_to k (omega arith) (λ j a b. elim (dec_lt k j) [
          | yes m ↦ w.past j (omega arith) b
          | no m ↦ (let e : j ≡ k = omega arith in rw e (not_here olds vertices pairs i u k l (λ f g. other g)))
        ]))

    -- a place with the vertex u is the pair: it has the position, too
    same_old : (c : ℕ) → i < position_limit → 0 < c → Walked olds vertices pairs i u c → get_or vertices (c - 1) 0 ≡ u → get_or olds (c - 1) 0 ≡ i
    same_old c hi h w e =
        chain_one (get_or olds (c - 1) 0) i u (held.old_lt (c - 1) (omega (arith, w.within))) hi (rw e at (w.mine h))

    pub walk_hit : (c : ℕ) → i < position_limit → 0 < c → Walked olds vertices pairs i u c → get_or vertices (c - 1) 0 ≡ u
        → c - 1 ≡ number_of (pairs_in olds vertices pairs) i u
    unfolding number_of
    walk_hit c hi h w e =
        let xs = pairs_in olds vertices pairs in
        let l : c - 1 < pairs = omega (arith, w.within) in
        let n = length_pairs_in olds vertices pairs in
        let t = here olds vertices pairs i u (c - 1) l (same_old c hi h w e) e in
        sym (first_is (is_at xs i u) 0 (length xs) (c - 1) zero-le (omega arith) t
        (λ j a b. So_not (λ s. held.single j (c - 1) b (omega arith) (is_at_out xs i u j s ∙ sym (is_at_out xs i u (c - 1) t)))))

    pub walk_end : (c : ℕ) → c ≤ 0 → Walked olds vertices pairs i u c → pairs ≡ number_of (pairs_in olds vertices pairs) i u
    unfolding number_of
    walk_end c h w =
        let xs = pairs_in olds vertices pairs in
        let n = length_pairs_in olds vertices pairs in
        omega (
          arith,
          first_none (is_at xs i u) 0 (length xs) zero-le (λ k a b. w.past k (omega arith) (omega arith)),
          first_le (is_at xs i u) 0 (length xs) zero-le,
        )

-- ---- a pair more

module _ (pairs i u : ℕ) (olds vertices heads nexts olds' vertices' heads' nexts' : List ℕ)
    (held : Held olds vertices heads nexts pairs) (added : Added pairs i u olds vertices heads nexts olds' vertices' heads' nexts')
    (hi : i < position_limit) (ho : pairs < length olds) (hv : pairs < length vertices) (hh : position_limit ≤ length heads) (hn : pairs < length nexts) where
  pub added_pairs : pairs_in olds' vertices' (pairs + 1) ≡ pairs_in olds vertices pairs ++ ((i, u) ∷ [])
  added_pairs = rw (added.old, added.vertex) (pairs_in_push olds vertices pairs i u ho hv)

  old_same : (k : ℕ) → k < pairs → get_or olds' k 0 ≡ get_or olds k 0
  old_same k h = rw added.old (get_or-set_other olds pairs k i 0 (λ e. omega arith))

  old_new : get_or olds' pairs 0 ≡ i
  old_new = rw added.old (get_or-set_same olds pairs i 0 ho)

  chain_same : (k : ℕ) → k < pairs → chain_at olds' vertices' k ≡ chain_at olds vertices k
  chain_same k h = rw (old_same k h, added.vertex, get_or-set_other vertices pairs k u 0 (λ e. omega arith)) refl

  chain_new : chain_at olds' vertices' pairs ≡ chain_of i u
  chain_new = rw (old_new, added.vertex, get_or-set_same vertices pairs u 0 hv) refl

  last_same : (x n : ℕ) → n ≤ pairs → last (λ k. eqb (chain_at olds' vertices' k) x) n ≡ last (λ k. eqb (chain_at olds vertices k) x) n
  last_same x n l = last_ext _ _ n (λ k h. ap (λ (y : ℕ). eqb y x) (chain_same k (omega arith)))

  added_chains : Chains olds' vertices' heads' nexts' (pairs + 1)
  unfolding last
  added_chains = record {
    head = λ x h. rw (add-one pairs) (go x h (ℕ_discrete x (chain_of i u)));
    next = λ k h. below_suc (λ (k : ℕ). get_or nexts' k 0 ≡ last (λ j. eqb (chain_at olds' vertices' j) (chain_at olds' vertices' k)) k)
        (λ k l.
        rw (added.next, get_or-set_other nexts pairs k (get_or heads (chain_of i u) 0) 0 (λ e. omega arith), held.chains.next k l, chain_same k l)
        (sym (last_same (chain_at olds vertices k) k (omega arith))))
        (rw (added.next, get_or-set_same nexts pairs (get_or heads (chain_of i u) 0) 0 hn, held.chains.head (chain_of i u) (chain_lt i u), chain_new)
        (sym (last_same (chain_of i u) pairs (omega arith))))
        k (rw (add-one pairs) at h);
  }
    where
      go : (x : ℕ) → x < position_limit → Dec (x ≡ chain_of i u)
          → get_or heads' x 0 ≡ cond (eqb (chain_at olds' vertices' pairs) x) (suc pairs) (last (λ k. eqb (chain_at olds' vertices' k) x) pairs)
      go x h (yes e) =
          rw (added.head, e, get_or-set_same heads (chain_of i u) (pairs + 1) 0 (omega arith), chain_new, eq-eqb (chain_of i u) (chain_of i u) refl) (add-one pairs)
      go x h (no e) =
          rw (added.head, get_or-set_other heads (chain_of i u) x (pairs + 1) 0 e, chain_new, ne_eqb (chain_of i u) x (λ q. e (sym q)))
          (held.chains.head x h ∙ sym (last_same x pairs (omega arith)))

  -- where the pair is new
  pub added_held : pairs ≤ number_of (pairs_in olds vertices pairs) i u → Held olds' vertices' heads' nexts' (pairs + 1)
  added_held new = record {
    chains = added_chains;
    old_lt = λ k h. below_suc (λ (k : ℕ). get_or olds' k 0 < position_limit)
        (λ k l. rw (old_same k l) (held.old_lt k l)) (rw old_new hi) k (rw (add-one pairs) at h);
    single =
        rw added_pairs
        (rw (le-ltb (number_of xs i u) (length xs) (omega (arith, length_pairs_in olds vertices pairs))) at ((grown xs (i, u)).single held.single));
  }
    where
      xs : List (ℕ × ℕ)
      xs = pairs_in olds vertices pairs
