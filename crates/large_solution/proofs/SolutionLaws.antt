-- An accepted solution is right: every vertex has a successor, the winner named at each vertex has a winning plan from it in the game of the
-- table, and the loser has none.
use Rattle.std.specs.Prelude.{◌≡◌, ◌⊎◌, false, ℕ, ◌+◌, ◌-◌, ◌%◌, ◌≤◌, ◌<◌, eqb, length, get_or}
use Rattle.std.proofs.Common.{sym, ◌∙◌, inl, inr, arith, eq-eqb}
use Rattle.std.proofs.Math.Bool.{So}
use mathlib.Core.List.{List, [], ◌++◌}
use Rattle.std.proofs.Math.Decide.{dec_lt}
use Rattle.std.proofs.lemmas.Bool.{eqb-false}
use Rattle.theory.specs.Games.Game.{other, parity, Total}
use Rattle.theory.specs.Plans.Plan.{Won, WonSmall}
use Rattle.theory.proofs.Winners.DeterminacyLaws.{winner}
use Rattle.theory.specs.Solutions.Solution.{Kept, Good}
use Rattle.theory.proofs.Solutions.SolutionLaws.{solved_won, solved_lost, solved_winner}
use Rattle.theory.specs.Solutions.Places.{Ordered}
use Rattle.theory.proofs.Solutions.PlacesLaws.{ordered_good}
use Rattle.table.specs.Table.{vertex_count, table_edges, priority_at, game_of}
use Rattle.table.specs.Answers.{accepted, Clean}
use Rattle.table.specs.AnswersLaws.{judge_accepted, clean_split}
use Rattle.large_table.specs.Reading.{large_rows, LargeFormed}
use Rattle.large_table.specs.ReadingLaws.{clean_formed}
use Rattle.large_moves.specs.Moves.{winner_at, move_rows}
use Rattle.large_moves.specs.Chosen.{winner_of, kept_edge, KeptAt, Chosen}
use Rattle.large_moves.proofs.MovesLaws.{clean_chosen}
use Rattle.large_moves.proofs.ChosenLaws.{parity_number, kept_out, chosen_total, chosen_kept}
use Rattle.large_solution.specs.Places.{place_at, end_at, place_over, climbs_by, place_rows, solution_answer}
use Rattle.large_solution.proofs.PlacesLaws.{over_says, clean_placed, place_lt, standing, run_right, no_climb, climb_falls, climb_ends}
use Rattle.large_solution.proofs.RunLaws.{stop_over}

-- ---- a clean certificate is an order that certifies the solution

module _ (g s c : List ℕ) (formed : LargeFormed g) (chosen : Chosen g s) (clean : Clean (place_rows g s c)) where
  abbrev n : ℕ
  n = vertex_count g

  abbrev p : ℕ → ℕ
  p = priority_at g

  -- a kept edge doesn't climb
  not_up : (v w : ℕ) → KeptAt g s v w → climbs_by (winner_at s v) (p v) (p w) (place_at c v) (place_at c w) (end_at c n (place_at c v)) ≡ false
  not_up v w r =
      let l = r.listed in
      let x = no_climb g s c clean r.at l.inside in
      (rw (l.source, l.target) at x) r.keeps

  edge_inside : (v w : ℕ) → KeptAt g s v w → v < n
  edge_inside v w r = omega (arith, r.listed.source, formed.sources r.at r.listed.inside)

  by_number : (v : ℕ) → v < n → parity (winner_of s v) (p v) ≡ eqb (p v % 2) (winner_at s v)
  by_number v h = parity_number (winner_at s v) (p v) (chosen.winners v h)

  falls_at : (v w : ℕ) → KeptAt g s v w → parity (winner_of s v) (p v) ≡ false → p v ≤ p w → place_at c w < place_at c v
  falls_at v w r e l = climb_falls _ _ _ _ _ _ (not_up v w r) (eqb-false (p v % 2) (winner_at s v) (sym (by_number v (edge_inside v w r)) ∙ e)) l

  by_player : (v u : ℕ) → v < n → (p v < p u) ⊎ ((p v ≡ p u) × (p v % 2 ≡ winner_at s v)) → (p v < p u) ⊎ ((p v ≡ p u) × So (parity (winner_of s v) (p v)))
  by_player v u h (inl x) = inl x
  by_player v u h (inr x) = inr (x.0, by_number v h ∙ eq-eqb (p v % 2) (winner_at s v) x.1)

  rises_at : (v w u : ℕ) → KeptAt g s v w → u < n → place_at c v < place_at c u → place_at c u ≤ place_at c w
      → (p v < p u) ⊎ ((p v ≡ p u) × So (parity (winner_of s v) (p v)))
  unfolding place_over
  rises_at v w u r hu a b =
      let h = edge_inside v w r in
      let e = climb_ends _ _ _ _ _ _ (not_up v w r) in
      let x = stop_over g s c n (place_at c v) (place_at c u) a (omega (arith, run_right g s c clean (place_at c v) (place_lt g s c clean v h))) in
      by_player v u h ((over_says (winner_at s v) (p v) (p u)).0 (rw (standing g s c clean v h, standing g s c clean u hu) at x))

  clean_ordered : Ordered (game_of g) (winner_of s) (kept_edge g s) (place_at c)
  unfolding game_of
  clean_ordered = record {
    falls = λ v w t e l. falls_at v w (kept_out g s v w t) e l;
    rises = λ v w t u hu a b. rises_at v w u (kept_out g s v w t) hu a b;
  }

  pub clean_good : Good (game_of g) (winner_of s) (kept_edge g s)
  clean_good = ordered_good (game_of g) (winner_of s) (kept_edge g s) (place_at c) (chosen_kept g s formed chosen) clean_ordered

-- ---- what acceptance says

module _ (g s c counts : List ℕ) (accept : solution_answer g s c ≡ accepted counts) where
  all_clean : Clean (large_rows g) × (Clean (move_rows g s) × Clean (place_rows g s c))
  unfolding solution_answer
  all_clean =
      let own = move_rows g s ++ place_rows g s c in
      let x = clean_split (large_rows g) own (judge_accepted (large_rows g ++ own) [] counts accept).0 in
      (x.0, clean_split (move_rows g s) (place_rows g s c) x.1)

  pub accepted_formed : LargeFormed g
  accepted_formed = clean_formed g all_clean.0

  pub accepted_chosen : Chosen g s
  accepted_chosen = clean_chosen g s all_clean.1.0

  kept : Kept (game_of g) (winner_of s) (kept_edge g s)
  kept = chosen_kept g s accepted_formed accepted_chosen

  pub accepted_good : Good (game_of g) (winner_of s) (kept_edge g s)
  accepted_good = clean_good g s c accepted_formed accepted_chosen all_clean.1.1

  -- every vertex has a successor
  pub solution_total : Total (game_of g)
  solution_total = chosen_total g s accepted_formed accepted_chosen

  -- words of a solution and of a certificate are as small as the numbers of vertices and edges
  pub solution_fits : (B : ℕ) → 1 < B → vertex_count g ≤ B → table_edges g ≤ B
      → ((k : ℕ) → k < length s → get_or s k 0 < B) × ((k : ℕ) → k < length c → get_or c k 0 < B)
  solution_fits B b hn hm = (
    λ k h. elim (dec_lt k (vertex_count g)) [
      | yes l ↦ omega (arith, accepted_chosen.winners k l)
      | no l ↦ (
          let e : vertex_count g + (k - vertex_count g) ≡ k = omega arith in
          let x = rw e at (accepted_chosen.move (k - vertex_count g) (omega (arith, accepted_chosen.words))) in
          omega arith)
    ],
    λ k h. let x = clean_placed g s c all_clean.1.1 in omega (arith, x.words k (omega (arith, x.size))),
  )

  module _ (v : ℕ) (h : v < vertex_count g) where
    -- the winner named at v has a winning plan from v, a small one
    pub solution_won : WonSmall (winner_of s v) (game_of g) v
    unfolding game_of
    solution_won = solved_won (game_of g) (winner_of s) (kept_edge g s) kept accepted_good v h

    -- the other player has none
    pub solution_lost : Won (other (winner_of s v)) (game_of g) v → ⊥
    unfolding game_of
    solution_lost = solved_lost (game_of g) (winner_of s) (kept_edge g s) kept accepted_good v h

    -- so it is the winner of the determinacy theorem
    pub solution_winner : winner (game_of g) v ≡ winner_of s v
    unfolding game_of
    solution_winner = solved_winner (game_of g) (winner_of s) (kept_edge g s) kept accepted_good v h solution_total
