-- Every right solution has a certificate that is accepted with it, and every formed game whose vertices all have successors has such a
-- solution. So words that pass 1 to 84 are right exactly if some certificate passes.
use Rattle.std.specs.Prelude.{◌≡◌, ◌⊎◌, ◌≢◌, ◌↔◌, Bool, true, false, get_or}
use Rattle.std.proofs.Math.Path.{refl, sym, ap}
use Rattle.std.proofs.Common.{◌∙◌}
use Rattle.std.proofs.Math.Logic.{inl, inr}
use Rattle.std.proofs.Math.Bool.{not, So}
use mathlib.Core.List.{List, [], ◌++◌}
use Prim.Native.Nat.{ℕ, ◌+◌, ◌-◌, ◌*◌, ◌%◌, ◌≤◌, ◌<◌}
use Rattle.std.proofs.Math.Decide.{dec_lt}
use native.Mathlib.Omega.{arith}
use Rattle.std.proofs.Math.Dec.{eqb}
use borrow.Author.Tests.{lt-ltb, le-ltb, eqb-true, eqb-false, eq-eqb, ne_eqb, lt-leb}
use Rattle.theory.proofs.Logic.BoolsLaws.{clash, So_not, not_in, not_out, and_out}
use Rattle.theory.specs.Logic.Range.{first}
use Rattle.theory.proofs.Logic.RangeLaws.{first_found, first_before, first_ge, first_le, first_passes, first_ext, found_none}
use Rattle.theory.proofs.Logic.CountLaws.{count_inject, count_less, count_le}
use Rattle.theory.proofs.Logic.ListLaws.{length_tabulate, get_d_tabulate}
use Rattle.theory.specs.Games.Game.{parity, Total}
use Rattle.theory.specs.Winners.Region.{whole}
use Rattle.theory.proofs.Winners.RegionPlanLaws.{whole_in}
use Rattle.theory.specs.Solutions.Solution.{Good}
use Rattle.theory.specs.Solutions.Places.{Over, Ordered}
use Rattle.theory.proofs.Solutions.PlacesExist.{order_all, good_ordered}
use Rattle.table.specs.Table.{vertex_count, table_edges, priority_at, source_at, target_at, game_of}
use Rattle.table.specs.Answers.{accepted, Clean}
use Rattle.table.specs.AnswersLaws.{judge_clean, clean_append}
use Rattle.large_table.specs.Reading.{large_rows, LargeFormed}
use Rattle.large_table.specs.ReadingLaws.{formed_clean}
use Rattle.large_moves.specs.Moves.{winner_at, move_rows}
use Rattle.large_moves.specs.Chosen.{winner_of, kept_edge, Chosen}
use Rattle.large_moves.proofs.MovesLaws.{chosen_clean}
use Rattle.large_moves.proofs.ChosenLaws.{parity_number, kept_in, chosen_kept}
use Rattle.large_moves.proofs.ExistenceLaws.{solution_of, solution_chosen, solution_good}
use Rattle.large_solution.specs.Places.{place_at, vertex_at, end_at, is_misplaced, place_over, run_stop, run_fails, from_last, climbs_by, edge_climbs, first_beyond, first_misplaced, first_bad_run, first_climb, place_rows, solution_answer}
use Rattle.large_solution.proofs.PlacesLaws.{over_says, climbs_by_says}
use Rattle.large_solution.proofs.SolutionLaws.{accepted_good}
use Rattle.large_solution.specs.Certificate.{vertex_of, over_at, end_of, certificate_word, certificate_of}

module _ (g s : List ℕ) (formed : LargeFormed g) (x : Chosen g s) (place : ℕ → ℕ)
    (inside : (v : ℕ) → v < vertex_count g → place v < vertex_count g)
    (one : (u v : ℕ) → u < vertex_count g → v < vertex_count g → place u ≡ place v → u ≡ v)
    (o : Ordered (game_of g) (winner_of s) (kept_edge g s) place) where
  abbrev n : ℕ
  n = vertex_count g

  abbrev m : ℕ
  m = table_edges g

  abbrev c : List ℕ
  c = certificate_of g s place

  abbrev at : ℕ → ℕ
  at = vertex_of g s place

  abbrev end : ℕ → ℕ
  end = end_of g s place

  abbrev over : ℕ → ℕ → Bool
  over = over_at g s place

  -- ---- places and vertices

  -- every place is some vertex's
  onto : (i : ℕ) → i < n → (v : ℕ) × (v < n) × So (eqb (place v) i)
  onto i h = elim (dec_lt (first (λ v. eqb (place v) i) 0 n) n) [
    | yes l ↦ (first (λ v. eqb (place v) i) 0 n, l, first_passes (λ v. eqb (place v) i) 0 n (omega arith) l)
    | no l ↦ (
        let none : (v : ℕ) → v < n → eqb (place v) i ≡ false = λ v a. first_before (λ v. eqb (place v) i) 0 n v (omega arith) (omega arith) in
        let a = count_inject n n (λ v. true) (λ j. not (eqb i j)) (λ v j. place v ≡ j)
        (λ v a t. (place v, inside v a, not_in (ne_eqb i (place v) (λ e. eqb-false (place v) i (none v a) (sym e))), refl))
        (λ u v j a b q p r. one u v a b (p ∙ sym r)) in
        let b = count_less n (λ j. not (eqb i j)) (λ v. true) (λ j q t. refl) i h (ap not (eq-eqb i i refl)) refl in
        absurd (omega arith))
  ]

  at_lt : (i : ℕ) → i < n → at i < n
  unfolding vertex_of
  at_lt i h = let r = onto i h in (first_found (λ v. eqb (place v) i) n r.0 r.1 r.2).0

  at_place : (i : ℕ) → i < n → place (at i) ≡ i
  unfolding vertex_of
  at_place i h = let r = onto i h in eqb-true _ _ (first_found (λ v. eqb (place v) i) n r.0 r.1 r.2).1

  place_at_lem : (v : ℕ) → v < n → at (place v) ≡ v
  place_at_lem v h = one (at (place v)) v (at_lt (place v) (inside v h)) h (at_place (place v) (inside v h))

  end_lt : (i : ℕ) → i < n → end i < n
  unfolding end_of
  end_lt i h = omega (arith, first_le (λ j. not (over i j)) (i + 1) n (omega arith), first_ge (λ j. not (over i j)) (i + 1) n)

  end_ge : (i : ℕ) → i ≤ end i
  unfolding end_of
  end_ge i = omega (arith, first_ge (λ j. not (over i j)) (i + 1) n)

  -- a run is as long as it can be
  end_long : (i b : ℕ) → b < n → i < b → ((j : ℕ) → i < j → j ≤ b → So (over i j)) → b ≤ end i
  unfolding end_of
  end_long i b h l f = elim (dec_lt b (first (λ j. not (over i j)) (i + 1) n)) [
    | yes y ↦ omega arith
    | no y ↦ (
        let r = first (λ j. not (over i j)) (i + 1) n in
        let t = first_passes (λ j. not (over i j)) (i + 1) n (omega arith) (omega arith) in
        clash (f r (omega (arith, first_ge (λ j. not (over i j)) (i + 1) n)) (omega arith)) (not_out t))
  ]

  -- ---- words

  place_word : (v : ℕ) → v < n → place_at c v ≡ place v
  unfolding certificate_of certificate_word
  place_word v h = get_d_tabulate (3 * n) (certificate_word g s place) 0 v (omega arith) ∙ rw (lt-ltb v n h)

  vertex_word : (i : ℕ) → i < n → vertex_at c n i ≡ at i
  unfolding certificate_of certificate_word
  vertex_word i h =
      let e : n + i - n ≡ i = omega arith in
      get_d_tabulate (3 * n) (certificate_word g s place) 0 (n + i) (omega arith) ∙ rw (le-ltb (n + i) n (omega arith), lt-ltb (n + i) (2 * n) (omega arith), e)

  end_word : (i : ℕ) → i < n → end_at c n i ≡ end i
  unfolding certificate_of certificate_word
  end_word i h =
      let e : 2 * n + i - 2 * n ≡ i = omega arith in
      get_d_tabulate (3 * n) (certificate_word g s place) 0 (2 * n + i) (omega arith)
      ∙ rw (le-ltb (2 * n + i) n (omega arith), le-ltb (2 * n + i) (2 * n) (omega arith), e)

  word_lt : (k : ℕ) → k < 3 * n → get_or c k 0 < n
  word_lt k h = elim (dec_lt k n) [
    | yes l ↦ rw (place_word k l) (inside k l)
    | no l ↦ elim (dec_lt k (2 * n)) [
      | yes a ↦ (let e : n + (k - n) ≡ k = omega arith in rw (← e, vertex_word (k - n) (omega arith)) (at_lt (k - n) (omega arith)))
      | no a ↦ (let e : 2 * n + (k - 2 * n) ≡ k = omega arith in rw (← e, end_word (k - 2 * n) (omega arith)) (end_lt (k - 2 * n) (omega arith)))
    ]
  ]

  -- the place after the run is where the search for its end stopped
  after_end : (i : ℕ) → i < n → end i + 1 ≡ first (λ j. not (over i j)) (i + 1) n
  unfolding end_of
  after_end i h = omega (arith, first_ge (λ j. not (over i j)) (i + 1) n)

  -- ---- the tests

  stands : (v : ℕ) → v < n → is_misplaced c n v ≡ false
  unfolding is_misplaced
  stands v h = ap not (eq-eqb _ _ (ap (vertex_at c n) (place_word v h) ∙ vertex_word (place v) (inside v h) ∙ place_at_lem v h))

  runs : (i : ℕ) → i < n → run_fails g s c n i ≡ false
  unfolding run_fails run_stop place_over over_at
  runs i h =
      let e = first_ext (λ j. not (place_over g s c n i j)) (λ j. not (over i j)) (i + 1) n same in
      ap not (eq-eqb _ _ (ap (λ (x : ℕ). x + 1) (end_word i h) ∙ after_end i h ∙ sym e))
    where
      same : (j : ℕ) → i + 1 ≤ j → j < n → not (place_over g s c n i j) ≡ not (over i j)
      same j a b = rw (vertex_word i h, vertex_word j b)

  -- what Over says, computed, at places
  over_places : (v : ℕ) (j : ℕ) → v < n → j < n → Over (game_of g) (winner_of s) v (at j) → So (over (place v) j)
  unfolding over_at game_of
  over_places v j h l r = rw (place_at_lem v h) ((over_says (winner_at s v) (priority_at g v) (priority_at g (at j))).1 (go r))
    where
      go : (priority_at g v < priority_at g (at j)) ⊎ ((priority_at g v ≡ priority_at g (at j)) × So (parity (winner_of s v) (priority_at g v)))
          → (priority_at g v < priority_at g (at j)) ⊎ ((priority_at g v ≡ priority_at g (at j)) × (priority_at g v % 2 ≡ winner_at s v))
      go (inl a) = inl a
      go (inr a) = inr (a.0, eqb-true _ _ (sym (parity_number (winner_at s v) (priority_at g v) (x.winners v h)) ∙ a.1))

  edges : (j : ℕ) → j < m → edge_climbs g s c n m j ≡ false
  unfolding edge_climbs game_of
  edges j h = So_not (λ t.
      let b = and_out t in
      go ((climbs_by_says _ _ _ _ _ _).0 (sym words ∙ b.0)) (kept_in g s v w j (record { inside = h; source = refl; target = refl }) b.1))
    where
      v : ℕ
      v = source_at g j

      w : ℕ
      w = target_at g j

      hv : v < n
      hv = formed.sources j h

      hw : w < n
      hw = formed.targets j h

      words : climbs_by (winner_at s v) (priority_at g v) (priority_at g w) (place_at c v) (place_at c w) (end_at c n (place_at c v))
          ≡ climbs_by (winner_at s v) (priority_at g v) (priority_at g w) (place v) (place w) (end (place v))
      words = rw (place_word v hv, place_word w hw, end_word (place v) (inside v hv))

      go : (end (place v) < place w) ⊎ ((place v ≤ place w) × (priority_at g v % 2 ≢ winner_at s v) × (priority_at g v ≤ priority_at g w))
          → So (kept_edge g s v w) → ⊥
      go (inl r) t =
          omega (
            arith,
            r,
            end_long (place v) (place w) (inside w hw) (omega (arith, end_ge (place v))) (λ i y z.
                let hi : i < n = omega (arith, inside w hw) in
                over_places v i hv hi (o.rises v w t (at i) (at_lt i hi) (rw (at_place i hi) y) (rw (at_place i hi) z))),
          )
      go (inr r) t =
          let f : parity (winner_of s v) (priority_at g v) ≡ false = parity_number (winner_at s v) (priority_at g v) (x.winners v hv) ∙ ne_eqb _ _ r.1 in
          omega (arith, o.falls v w t f r.2, r.0)

  order_clean : Clean (place_rows g s c)
  unfolding place_rows first_beyond first_misplaced first_bad_run first_climb certificate_of
  order_clean = (
    ap not (eq-eqb _ _ (length_tabulate (3 * n) (certificate_word g s place))),
    (
      found_none _ (3 * n) (λ k h. lt-leb n (get_or c k 0) (word_lt k h)),
      (
        found_none _ n (λ v h. stands v h),
        (
          found_none _ n (λ k h. runs (from_last n k) (omega arith)),
          (
            found_none _ m (λ j h. edges j h),
            tt,
          ),
        ),
      ),
    ),
  )

  order_accepted : solution_answer g s c ≡ accepted []
  unfolding solution_answer
  order_accepted =
      let own = move_rows g s ++ place_rows g s c in
      judge_clean (large_rows g ++ own) []
      (clean_append (large_rows g) own (formed_clean g formed) (clean_append (move_rows g s) (place_rows g s c) (chosen_clean g s x) order_clean))

-- every right solution has a certificate
pub good_accepted : (g s : List ℕ) (formed : LargeFormed g) (x : Chosen g s) → Good (game_of g) (winner_of s) (kept_edge g s)
    → (c : List ℕ) × (solution_answer g s c ≡ accepted [])
unfolding game_of
good_accepted g s formed x good =
    let kept = chosen_kept g s formed x in
    let all = order_all (game_of g) (winner_of s) (kept_edge g s) kept good in (
      certificate_of g s all.place,
      order_accepted g s formed x all.place
          (λ v h. omega (arith, all.below v h (whole_in (game_of g) v h), count_le (vertex_count g) (whole (game_of g))))
          (λ u v h l e. all.one u v h l (whole_in (game_of g) u h) (whole_in (game_of g) v l) e)
          (good_ordered (game_of g) (winner_of s) (kept_edge g s) kept good),
    )

-- a solution whose words pass is right exactly if some certificate is accepted with it
pub good_exactly : (g s : List ℕ) → LargeFormed g → Chosen g s
    → Good (game_of g) (winner_of s) (kept_edge g s) ↔ ((c : List ℕ) × (solution_answer g s c ≡ accepted []))
good_exactly g s formed x = (good_accepted g s formed x, λ r. accepted_good g s r.0 [] r.1)

-- every formed game whose vertices all have successors has a solution and a certificate that are accepted
pub solution_exists : (g : List ℕ) → LargeFormed g → Total (game_of g) → (s : List ℕ) × (c : List ℕ) × (solution_answer g s c ≡ accepted [])
solution_exists g formed total =
    let r = good_accepted g (solution_of g formed total) formed (solution_chosen g formed total) (solution_good g formed total) in
    (solution_of g formed total, r.0, r.1)
