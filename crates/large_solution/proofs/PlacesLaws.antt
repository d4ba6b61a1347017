-- What the rows of a certificate say where none refuses.
use Rattle.std.specs.Prelude.{◌≡◌, ◌⊎◌, ◌≢◌, ◌↔◌, false, List, ℕ, ◌+◌, ◌*◌, ◌%◌, ◌≤◌, ◌<◌, ltb, length, get_or}
use Rattle.std.proofs.Common.{◌∙◌, inl, inr}
use Rattle.std.proofs.Math.Bool.{So}
use Rattle.std.proofs.Math.Decide.{dec_lt}
use native.Mathlib.Omega.{arith}
use borrow.Author.Tests.{ltb-true, lt-ltb, leb-true, le-leb, leb-false, eqb-true, eq-eqb, not-false}
use Rattle.theory.proofs.Logic.BoolsLaws.{clash, So_not, and_in, and_out, or_says}
use Rattle.theory.specs.Logic.Range.{first}
use Rattle.theory.proofs.Logic.RangeLaws.{none_found}
use Rattle.table.specs.Table.{vertex_count, table_edges, priority_at, source_at, target_at}
use Rattle.table.specs.Flags.{at_least}
use Rattle.table.specs.Answers.{Clean}
use Rattle.table.specs.ReadingLaws.{differs}
use Rattle.large_moves.specs.Moves.{winner_at, keeps_edge}
use Rattle.large_solution.specs.Places.{place_at, vertex_at, end_at, is_misplaced, is_over, place_over, run_stop, run_fails, from_last, climbs_by, edge_climbs, first_beyond, first_misplaced, first_bad_run, first_climb, place_rows, Placed}

-- ---- what the tests say

pub over_says : (w p q : ℕ) → So (is_over w p q) ↔ ((p < q) ⊎ ((p ≡ q) × (p % 2 ≡ w)))
unfolding is_over
over_says w p q = or_says (ltb-true p q, lt-ltb p q) (
  λ t. let x = and_out t in (eqb-true p q x.0, eqb-true (p % 2) w x.1),
  λ x. and_in (eq-eqb p q x.0) (eq-eqb (p % 2) w x.1),
)

pub climbs_by_says : (w p q a b e : ℕ) → So (climbs_by w p q a b e) ↔ ((e < b) ⊎ ((a ≤ b) × (p % 2 ≢ w) × (p ≤ q)))
unfolding climbs_by
climbs_by_says w p q a b e = or_says (ltb-true e b, lt-ltb e b) (
  λ t. let x = and_out t in let y = and_out x.1 in (leb-true a b x.0, (differs (p % 2) w).0 y.0, leb-true p q y.1),
  λ x. and_in (le-leb a b x.0) (and_in ((differs (p % 2) w).1 x.1) (le-leb p q x.2)),
)

over_trans : (w w' p q r : ℕ) → So (is_over w p q) → So (is_over w' q r) → So (is_over w p r)
over_trans w w' p q r t u = (over_says w p r).1 (go ((over_says w p q).0 t) ((over_says w' q r).0 u))
  where
    go : (p < q) ⊎ ((p ≡ q) × (p % 2 ≡ w)) → (q < r) ⊎ ((q ≡ r) × (q % 2 ≡ w')) → (p < r) ⊎ ((p ≡ r) × (p % 2 ≡ w))
    go (inl a) (inl b) = inl (omega arith)
    go (inl a) (inr b) = inl (omega arith)
    go (inr a) (inl b) = inl (omega arith)
    go (inr a) (inr b) = inr (a.0 ∙ b.0, a.1)

pub place_over_trans : (g s c : List ℕ) (n i j u : ℕ) → So (place_over g s c n i j) → So (place_over g s c n j u) → So (place_over g s c n i u)
unfolding place_over
place_over_trans g s c n i j u t x = over_trans (winner_at s (vertex_at c n i)) (winner_at s (vertex_at c n j)) _ _ _ t x

-- ---- words

pub placed_by : (c : List ℕ) (n : ℕ) → length c ≡ 3 * n → ltb (first (at_least c n) 0 (3 * n)) (3 * n) ≡ false → Placed c n
placed_by c n e f = record { size = e; words = λ k h. leb-false n (get_or c k 0) (none_found (at_least c n) (3 * n) f k h) }

module _ (g s c : List ℕ) (clean : Clean (place_rows g s c)) where
  abbrev n : ℕ
  n = vertex_count g

  abbrev m : ℕ
  m = table_edges g

  pub clean_placed : Placed c n
  unfolding place_rows first_beyond
  clean_placed = placed_by c n (eqb-true (length c) (3 * n) (not-false _ clean.0)) clean.1.0

  pub place_lt : (v : ℕ) → v < n → place_at c v < n
  place_lt v h = clean_placed.words v (omega arith)

  pub standing : (v : ℕ) → v < n → vertex_at c n (place_at c v) ≡ v
  unfolding place_rows first_misplaced is_misplaced
  standing v h = eqb-true (vertex_at c n (place_at c v)) v (not-false _ (none_found _ n clean.1.1.0 v h))

  pub run_right : (i : ℕ) → i < n → end_at c n i + 1 ≡ run_stop g s c n i (i + 1)
  unfolding place_rows first_bad_run run_fails
  run_right i h =
      let e : from_last n (from_last n i) ≡ i = omega arith in
      eqb-true _ _ (not-false _ (rw e at (none_found (λ k. run_fails g s c n (from_last n k)) n clean.1.1.1.0 (from_last n i) (omega arith))))

  pub no_climb : (j : ℕ) → j < m → So (keeps_edge g s n (source_at g j) j)
      → let v = source_at g j in let w = target_at g j in
      climbs_by (winner_at s v) (priority_at g v) (priority_at g w) (place_at c v) (place_at c w) (end_at c n (place_at c v)) ≡ false
  unfolding place_rows first_climb edge_climbs
  no_climb j h t = So_not (λ u. clash (and_in u t) (none_found _ m clean.1.1.1.1.0 j h))

-- ---- an edge that doesn't climb

module _ (w p q a b e : ℕ) (f : climbs_by w p q a b e ≡ false) where
  -- it goes down from a priority of the loser's to one no lower
  pub climb_falls : p % 2 ≢ w → p ≤ q → b < a
  climb_falls d l = elim (dec_lt b a) [
    | yes y ↦ y
    | no y ↦ clash ((climbs_by_says w p q a b e).1 (inr (omega arith, d, l))) f
  ]

  -- it stays within the run
  pub climb_ends : b ≤ e
  climb_ends = elim (dec_lt e b) [
    | yes y ↦ clash ((climbs_by_says w p q a b e).1 (inl y)) f
    | no y ↦ omega arith
  ]
