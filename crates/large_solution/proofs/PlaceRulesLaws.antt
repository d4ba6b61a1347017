-- The rows 85 to 89 compute these rules, and the call refuses k at p exactly if the first rule that applies has number k and names p.
use Rattle.std.specs.Prelude.{◌≡◌, ◌↔◌, ◌⊎◌, ◌≢◌, Bool, not, ℕ, ◌+◌, ◌*◌, ◌≤◌, ◌<◌, length, get_or}
use Rattle.std.proofs.Math.Path.{refl}
use Rattle.std.proofs.Common.{sym, ap, ◌∙◌, inl, inr, arith}
use Rattle.std.proofs.Math.Bool.{So}
use mathlib.Core.List.{List, [], ◌++◌}
use Rattle.std.proofs.Math.Decide.{dec_lt, ℕ_discrete}
use borrow.Author.Tests.{leb-true, le-leb, not-false}
use Rattle.theory.proofs.Logic.BoolsLaws.{clash, So_not, not_in, not_out, and_in, and_out}
use Rattle.theory.specs.Logic.Range.{first}
use Rattle.theory.proofs.Logic.RangeLaws.{first_hit, first_end_lem, first_ge, first_le, first_before, first_passes, first_skip}
use Rattle.table.specs.Table.{vertex_count, table_edges}
use Rattle.table.specs.Rules.{FirstRule, NoRule, Rendered, none, next}
use Rattle.table.specs.RulesLaws.{renders_placed, renders_first, refused_by, rendered_append, clean_none, none_clean}
use Rattle.table.specs.Answers.{accepted, refused}
use Rattle.table.specs.AnswersLaws.{judge_clean, judge_accepted}
use Rattle.table.specs.ReadingLaws.{differs}
use Rattle.large_table.specs.Reading.{large_rows}
use Rattle.large_moves.specs.Moves.{winner_at, move_rows}
use Rattle.large_moves.proofs.MovesLaws.{keeps_says, move_rows_render}
use Rattle.large_table.specs.ReadingLaws.{large_render}
use Rattle.large_solution.specs.Places.{place_at, vertex_at, end_at, is_misplaced, place_over, run_stop, run_fails, from_last, edge_climbs, first_beyond, first_misplaced, first_bad_run, first_climb, place_rows, solution_answer}
use Rattle.large_solution.proofs.PlacesLaws.{over_says, climbs_by_says}
use Rattle.large_solution.specs.PlaceRules.{OverPlace, Longest, Climbs, place_rules, solution_rules}

module _ (g s c : List ℕ) where
  abbrev n : ℕ
  n = vertex_count g

  abbrev m : ℕ
  m = table_edges g

  place_over_says : (i j : ℕ) → So (place_over g s c n i j) ↔ OverPlace g s c i j
  unfolding place_over
  place_over_says i j = over_says (winner_at s (vertex_at c n i)) _ _

  -- ---- runs

  module _ (i : ℕ) where
    abbrev end : ℕ
    end = end_at c n i

    abbrev off : ℕ → Bool
    off j = not (place_over g s c n i j)

    longest_out : end + 1 ≡ first off (i + 1) n → Longest g s c i
    longest_out e = record {
      last = elim (ℕ_discrete end i) [
        | yes q ↦ inl q
        | no q ↦ inr (later q)
      ];
      within = λ j a b. (place_over_says i j).0 (not-false _ (first_before off (i + 1) n j (omega arith) (omega arith)));
      stops = λ h o. clash ((place_over_says i (end + 1)).1 o) (not_out (rw (← e) at (first_passes off (i + 1) n (omega (arith, ge)) (omega arith))));
    }
      where
        ge : i + 1 ≤ first off (i + 1) n
        ge = first_ge off (i + 1) n

        later : end ≢ i → (i < end) × (end < n)
        later q = elim (dec_lt i n) [
          | yes l ↦ (omega (arith, ge), omega (arith, first_le off (i + 1) n (omega arith)))
          | no l ↦ absurd (q (omega (arith, first_end_lem off (i + 1) n (omega arith))))
        ]

    longest_in : Longest g s c i → end + 1 ≡ first off (i + 1) n
    longest_in x = sym (skip x.last ∙ stop x.last)
      where
        skip : (end ≡ i) ⊎ ((i < end) × (end < n)) → first off (i + 1) n ≡ first off (end + 1) n
        skip (inl e) = ap (λ (k : ℕ). first off (k + 1) n) (sym e)
        skip (inr r) = first_skip off (i + 1) (end + 1) n (omega arith) (omega arith) (λ j a b. ap not ((place_over_says i j).1 (x.within j (omega arith) (omega arith))))

        stop : (end ≡ i) ⊎ ((i < end) × (end < n)) → first off (end + 1) n ≡ end + 1
        stop r = elim (dec_lt (end + 1) n) [
          | yes l ↦ first_hit off (end + 1) n l (not_in (So_not (λ t. x.stops l ((place_over_says i (end + 1)).0 t))))
          | no l ↦ first_end_lem off (end + 1) n (omega arith)
        ]

    run_says : So (run_fails g s c n i) ↔ (¬ Longest g s c i)
    unfolding run_fails run_stop
    run_says = (
      λ t x. (differs (end + 1) (first off (i + 1) n)).0 t (longest_in x),
      λ f. (differs (end + 1) (first off (i + 1) n)).1 (λ e. f (longest_out e)),
    )

  -- ---- edges

  climbs_says : (j : ℕ) → So (edge_climbs g s c n m j) ↔ Climbs g s c j
  unfolding edge_climbs
  climbs_says j = (
    λ t. let x = and_out t in record { keeps = (keeps_says g s j).0 x.1; climbs = (climbs_by_says _ _ _ _ _ _).0 x.0 },
    λ x. and_in ((climbs_by_says _ _ _ _ _ _).1 x.climbs) ((keeps_says g s j).1 x.keeps),
  )

  pub place_rows_render : Rendered (place_rows g s c) (place_rules g s c)
  unfolding place_rows first_beyond first_misplaced is_misplaced first_bad_run first_climb
  place_rows_render =
      next (renders_placed 85 (length c) _ _ (differs (length c) (3 * n)))
      (next (renders_first 86 _ _ 0 (3 * n) (λ k. k) (omega arith) (λ k. (leb-true n (get_or c k 0), le-leb n (get_or c k 0))))
      (next (renders_first 87 _ _ 0 n (λ v. v) (omega arith) (λ v. differs (vertex_at c n (place_at c v)) v))
      (next
      (renders_first 88 (λ k. run_fails g s c n (from_last n k)) (λ k. ¬ Longest g s c (from_last n k)) 0 n (from_last n) (omega arith)
      (λ k. run_says (from_last n k)))
      (next (renders_first 89 (edge_climbs g s c n m) (Climbs g s c) 0 m (λ j. j) (omega arith) climbs_says)
      none))))

  -- ---- the whole call

  rows_render : Rendered (large_rows g ++ (move_rows g s ++ place_rows g s c)) (solution_rules g s c)
  rows_render = rendered_append (large_render g) (rendered_append (move_rows_render g s) place_rows_render)

  pub solution_refused : (k p : ℕ) → (solution_answer g s c ≡ refused k p) ↔ FirstRule (solution_rules g s c) k p
  unfolding solution_answer
  solution_refused = refused_by [] rows_render refl

  pub solution_accepted : (solution_answer g s c ≡ accepted []) ↔ NoRule (solution_rules g s c)
  unfolding solution_answer
  solution_accepted = (λ e. clean_none rows_render (judge_accepted _ [] [] e).0, λ x. judge_clean _ [] (none_clean rows_render x))
