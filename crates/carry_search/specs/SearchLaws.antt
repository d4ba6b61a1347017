-- Laws of the search in its memory, for any moves that lead from pairs of a position and a vertex to such pairs.
use Rattle.std.specs.Prelude.{◌≡◌, refl, ◌⊎◌, List, [], ◌++◌, ℕ, suc, ◌+◌, ◌-◌, ◌*◌, ◌≤◌, ◌<◌, get_or}
use Rattle.std.proofs.Common.{sym, ap, ◌∙◌, inl, inr, append-nil, not-suc-le-zero, add-one, arith}
use Rattle.std.proofs.Math.Arith.{digits_lt}
use Rattle.theory.proofs.Logic.CountLaws.{digits_one}
use Rattle.theory.specs.Logic.Range.{tabulate}
use Rattle.theory.proofs.Plans.LinkLaws.{pair_is_lem}
use Rattle.theory.specs.Carry.BreadthFirst.{Found, start_at, visits, search}
use Rattle.theory.proofs.Carry.BreadthFirstLaws.{size, pair_at, Among, visits_append, Done, done_start, done_step, few}
use Rattle.theory.proofs.Carry.BreadthFirstLaws.{NoFewer, visits_no_fewer, no_fewer_trans, search_step, search_end, search_no_fewer}
use Rattle.carry_search.specs.Chains.{pairs_in}
use Rattle.carry_search.specs.PairsInLaws.{length_pairs_in, get_d_pairs_in}
use Rattle.carry_search.specs.SearchMemory.{Memory, found_in, SearchRoom, Within}
use Rattle.carry_search.specs.Search.{Started, Inside, Over, Expanded, SearchResult}

over_none : {A : Type 0} {pairs links : ℕ} → Within pairs links → Over pairs links → A
over_none i (inl p) = absurd (not-suc-le-zero {n = 0} (omega (arith, i.few_pairs)))
over_none i (inr p) = absurd (not-suc-le-zero {n = 0} (omega (arith, i.few_links)))

module _ (moves : ℕ × ℕ → List (ℕ × ℕ)) (p n : ℕ) (closed : (x y : ℕ × ℕ) → Inside p n x → Among y (moves x) → Inside p n y) (w : ℕ) where
  abbrev pub whole : Found
  whole = search moves (p * n) 0 (start_at (0, w))

  -- the pairs below k are done, and the rest of the search is what is left of the whole
  pub record Running (k : ℕ) (s : Found) : Type 0 where
    pub done : Done moves (Inside p n) closed (0, w) k s
    pub same : search moves (p * n - k) k s ≡ whole

  run_start : 0 < p → w < n → Running 0 (start_at (0, w))
  run_start h l =
      let q : p * n - 0 ≡ p * n = omega arith in
      record { done = done_start moves (Inside p n) closed (0, w) (record { old_lt = h; new_lt = l }); same = rw q refl }

  few_pairs : (k : ℕ) (s : Found) → Running k s → size s ≤ p * n
  few_pairs k s r =
      few moves (Inside p n) closed (0, w) (p * n) (λ x. x.0 * n + x.1)
      (λ x g. digits_lt g.old_lt g.new_lt)
      (λ x y g h e. let q = digits_one g.new_lt h.new_lt e in pair_is_lem q.0 q.1)
      k s r.done

  step_same : (k : ℕ) (s : Found) → k < size s → Running k s → search moves (p * n - (k + 1)) (suc k) (visits k s (moves (pair_at s k))) ≡ whole
  step_same k s l r =
      let q : p * n - k ≡ suc (p * n - (k + 1)) = omega (arith, few_pairs k s r) in
      sym (search_step moves (p * n - (k + 1)) k s l) ∙ rw q at r.same

  run_next : (k : ℕ) (s s' : Found) → k < size s → Running k s → s' ≡ visits k s (moves (pair_at s k)) → Running (k + 1) s'
  run_next k s s' l r e =
      rw (e, add-one k)
      (record { done = done_step moves (Inside p n) closed (0, w) k s l r.done; same = rw (add-one k) at (step_same k s l r) })

  run_end : (k : ℕ) (s : Found) → size s ≤ k → Running k s → s ≡ whole
  run_end k s l r = sym (search_end moves (p * n - k) k s l) ∙ r.same

  -- some of the moves of pair k were made, the first of them: the whole has them too
  run_more : (k : ℕ) (s : Found) (did left : List (ℕ × ℕ)) → k < size s → Running k s → did ++ left ≡ moves (pair_at s k) → NoFewer (visits k s did) whole
  run_more k s did left l r e =
      rw (← (step_same k s l r), ← e, visits_append k s did left)
      (no_fewer_trans (visits_no_fewer k (visits k s did) left) (search_no_fewer moves (p * n - (k + 1)) (suc k) (visits k (visits k s did) left)))

  -- ---- in work memory

  pub running_start : (m : Memory) → Started p w m → 0 < p → w < n → Running 0 (found_in m)
  unfolding pairs_in tabulate
  running_start m s l o = rw (s.one, s.none, s.old, s.vertex) (run_start l o)

  module _ (k : ℕ) (m : Memory) (r : Running k (found_in m)) where
    -- each pair is one of a position and a vertex
    pub running_inside : (j : ℕ) → j < m.pairs → Inside p n (get_or m.olds j 0, get_or m.vertices j 0)
    running_inside j h =
        rw (get_d_pairs_in m.olds m.vertices m.pairs j h) at (r.done.holds j (rw (length_pairs_in m.olds m.vertices m.pairs) h))

    pub running_end : SearchRoom p m → Within m.pairs m.links → m.pairs ≤ k → SearchResult whole m
    running_end ready i h = record {
      right = λ j. run_end k (found_in m) (rw (length_pairs_in m.olds m.vertices m.pairs) h) r;
      over = λ o. over_none i o;
      pairs = ready.pairs;
      links = ready.links;
    }

    module _ (m' : Memory) (h : k < m.pairs) (x : Expanded k (moves (get_or m.olds k 0, get_or m.vertices k 0)) p m m') where
      found : k < size (found_in m)
      found = rw (length_pairs_in m.olds m.vertices m.pairs) h

      made : x.did ++ x.left ≡ moves (pair_at (found_in m) k)
      made = rw (get_d_pairs_in m.olds m.vertices m.pairs k h) x.whole

      pub running_next : Within m'.pairs m'.links → Running (k + 1) (found_in m')
      running_next i = go x.why
        where
          go : (x.left ≡ []) ⊎ Over m'.pairs m'.links → Running (k + 1) (found_in m')
          go (inl e) =
              run_next k (found_in m) (found_in m') found r
              (x.moved.found ∙ ap (visits k (found_in m)) (sym (append-nil x.did) ∙ ap (λ (l : List (ℕ × ℕ)). x.did ++ l) (sym e) ∙ made))
          go (inr q) = over_none i q

      no_fewer : NoFewer (found_in m') whole
      no_fewer = rw x.moved.found (run_more k (found_in m) x.did x.left found r made)

      pub running_over : Over m'.pairs m'.links → SearchResult whole m'
      running_over q = record {
        right = λ i. over_none i q;
        over = λ o. elim o [
          | inl p ↦ inl (omega (arith, no_fewer.pairs, length_pairs_in m'.olds m'.vertices m'.pairs))
          | inr p ↦ inr (omega (arith, no_fewer.links, length_pairs_in m'.sources m'.targets m'.links))
        ];
        pairs = x.moved.ready.pairs;
        links = x.moved.ready.links;
      }
