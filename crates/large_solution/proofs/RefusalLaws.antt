-- What the refusals 83 and 84 of the call say about the game. That 89 says nothing about it is shown in `Worked`.
use Rattle.std.specs.Prelude.{◌≡◌, ◌≢◌, Bool, true, not, ℕ, ◌≤◌, ◌<◌, eqb}
use Rattle.std.proofs.Math.Path.{refl, sym}
use Rattle.std.proofs.Common.{◌∙◌, inl, inr}
use Rattle.std.proofs.Math.Bool.{false, So}
use mathlib.Core.List.{List, [], ◌∷◌, ◌++◌}
use Rattle.std.proofs.Math.Decide.{dec_lt, ℕ_discrete}
use native.Mathlib.Omega.{arith}
use Rattle.std.proofs.lemmas.Bool.{eqb-false}
use Rattle.theory.specs.Logic.Bools.{◌&◌}
use Rattle.theory.proofs.Logic.BoolsLaws.{So_not, not_out, and_out}
use Rattle.theory.specs.Games.Game.{own, Succ, Total}
use Rattle.theory.proofs.Games.GameLaws.{same_out}
use Rattle.theory.proofs.Winners.DeterminacyLaws.{winner}
use Rattle.theory.specs.Solutions.Solution.{Kept}
use Rattle.table.specs.Table.{vertex_count, table_edges, source_at, target_at, owner_at, player_of, Listed, game_of}
use Rattle.table.specs.TableLaws.{edge_in}
use Rattle.table.specs.Answers.{refused}
use Rattle.table.specs.Rules.{Rule, FirstRule, here, later, NoRule, no_rule, fails}
use Rattle.table.specs.RulesLaws.{none_clean}
use Rattle.large_table.specs.Reading.{LargeFormed}
use Rattle.large_table.specs.WordsLaws.{player_one}
use Rattle.large_table.specs.LargeRules.{large_rules}
use Rattle.large_table.specs.ReadingLaws.{large_render, clean_formed}
use Rattle.large_moves.specs.Moves.{winner_at, move_at}
use Rattle.large_moves.specs.Chosen.{winner_of, kept_edge}
use Rattle.large_moves.proofs.ChosenLaws.{chosen_kept, stray_names_none, leaving_fails}
use Rattle.large_moves.specs.MoveRules.{Strays, Leaves, move_rules}
use Rattle.large_solution.specs.Places.{solution_answer}
use Rattle.large_solution.specs.PlaceRules.{place_rules}
use Rattle.large_solution.proofs.PlaceRulesLaws.{solution_refused}
use Rattle.large_solution.proofs.SolutionLaws.{accepted_formed, accepted_chosen, solution_winner}
use Rattle.large_solution.proofs.CertificateLaws.{solution_exists}

-- ---- the rule that applies, by its number

-- none of the rules has number k
unfoldable others : ℕ → List Rule → Bool
others k [] = true
others k (q ∷ qs) = not (eqb q.number k) & others k qs

never : (qs : List Rule) (k p : ℕ) → So (others k qs) → ¬ FirstRule qs k p
unfolding others
never [] k p o x = elim x [ ]
never (q ∷ qs) k p o (here h e a) = eqb-false q.number k (not_out (and_out o).0) e
never (q ∷ qs) k p o (later m f) = never qs k p (and_out o).1 f

record Past (qs rs : List Rule) (k p : ℕ) : Type 1 where
  fail : NoRule qs
  rest : FirstRule rs k p

past : (qs rs : List Rule) (k p : ℕ) → So (others k qs) → FirstRule (qs ++ rs) k p → Past qs rs k p
unfolding others
past [] rs k p o f = record { fail = no_rule; rest = f }
past (q ∷ qs) rs k p o (here h e a) = absurd (eqb-false q.number k (not_out (and_out o).0) e)
past (q ∷ qs) rs k p o (later m f) = let x = past qs rs k p (and_out o).1 f in record { fail = fails m x.fail; rest = x.rest }

-- ---- where the loser moves, each successor has the same winner

module _ (g : List ℕ) (formed : LargeFormed g) (total : Total (game_of g)) where
  loser_stays : (v w : ℕ) → v < vertex_count g → w < vertex_count g → own (game_of g) (winner (game_of g) v) v ≡ false → Succ (game_of g) v w
      → winner (game_of g) w ≡ winner (game_of g) v
  unfolding game_of
  loser_stays v w hv hw o t =
      let x = solution_exists g formed total in
      let s = x.0 in
      let is = solution_winner g s x.1 [] x.2 in
      let kept = chosen_kept g s (accepted_formed g s x.1 [] x.2) (accepted_chosen g s x.1 [] x.2) in
      is w hw ∙ sym (kept.stays v w (kept.answers v w hv (rw (is v hv) at o) t)) ∙ sym (is v hv)

module _ (g s c : List ℕ) where
  abbrev n : ℕ
  n = vertex_count g

  -- ---- 83: the solution names no move at v

  stray_applies : (v : ℕ) → FirstRule (move_rules g s ++ place_rules g s c) 83 v → Strays g s v
  unfolding others ◌&◌
  stray_applies v (here h e a) = absurd (omega (arith, e))
  stray_applies v (later m (here h e a)) = absurd (omega (arith, e))
  stray_applies v (later m (later m' (here h e a))) = let x = a.1.holds in rw a.2 at x
  stray_applies v (later m (later m' (later m'' f))) = absurd (never _ 83 v refl f)

  pub refused_stray : (v : ℕ) → solution_answer g s c ≡ refused 83 v → (w : ℕ) → ¬ Listed g v w (move_at s n v)
  unfolding others ◌&◌
  refused_stray v e = stray_names_none g s v (stray_applies v (past (large_rules g) _ 83 v refl ((solution_refused g s c 83 v).0 e)).rest)

  -- ---- 84: a kept edge leaves

  -- what is known of a solution that is refused so
  record Leaving (j : ℕ) : Type 0 where
    winners : (v : ℕ) → v < n → winner_at s v ≤ 1
    moves : (v : ℕ) → v < n → ¬ Strays g s v
    inside : j < table_edges g
    leaves : Leaves g s j

  leaving_applies : (j : ℕ) → FirstRule (move_rules g s ++ place_rules g s c) 84 j → Leaving j
  unfolding others ◌&◌
  leaving_applies j (here h e a) = absurd (omega (arith, e))
  leaving_applies j (later m (here h e a)) = absurd (omega (arith, e))
  leaving_applies j (later m (later m' (here h e a))) = absurd (omega (arith, e))
  leaving_applies j (later m (later m' (later m'' (here h e a)))) = record {
    winners = λ v l. elim (dec_lt 1 (winner_at s v)) [ yes y ↦ absurd (m' (v, omega arith, l, y)) | no y ↦ omega arith ];
    moves = λ v l x. m'' (v, omega arith, l, x);
    inside = let x = a.1.below in rw a.2 at x;
    leaves = let x = a.1.holds in rw a.2 at x;
  }
  leaving_applies j (later m (later m' (later m'' (later m''' f)))) = absurd (never _ 84 j refl f)

  module _ (j : ℕ) (refuse : solution_answer g s c ≡ refused 84 j) where
    passed : Past (large_rules g) (move_rules g s ++ place_rules g s c) 84 j
    unfolding others ◌&◌
    passed = past (large_rules g) _ 84 j refl ((solution_refused g s c 84 j).0 refuse)

    formed : LargeFormed g
    formed = clean_formed g (none_clean (large_render g) passed.fail)

    leaving : Leaving j
    leaving = leaving_applies j passed.rest

    abbrev v : ℕ
    v = source_at g j

    abbrev w : ℕ
    w = target_at g j

    -- the winners aren't closed under the kept edges, so these winners with these moves are wrong
    pub refused_leaving : ¬ Kept (game_of g) (winner_of s) (kept_edge g s)
    refused_leaving = leaving_fails g s j formed leaving.winners leaving.inside leaving.leaves

    total : Total (game_of g)
    unfolding game_of
    total u h = elim (dec_lt (move_at s n u) (table_edges g)) [
      | yes l ↦ elim (ℕ_discrete (source_at g (move_at s n u)) u) [
        | yes e ↦ (
          target_at g (move_at s n u),
          record { inside = formed.targets (move_at s n u) l; along = edge_in g u _ (move_at s n u) (record { inside = l; source = e; target = refl }) },
        )
        | no d ↦ absurd (leaving.moves u h (inr d))
      ]
      | no l ↦ absurd (leaving.moves u h (inl (omega arith)))
    ]

    -- where the loser owns the source, the winner is wrong there or at the target, whatever the moves are
    pub refused_wrong : winner_at s v ≢ owner_at g v → winner (game_of g) v ≡ winner_of s v → winner (game_of g) w ≡ winner_of s w → ⊥
    unfolding game_of
    refused_wrong d e f =
        let hv = formed.sources j leaving.inside in
        let hw = formed.targets j leaving.inside in
        let o : own (game_of g) (winner (game_of g) v) v ≡ false
        = rw e (So_not (λ t. d (player_one (winner_at s v) (owner_at g v) (leaving.winners v hv) (formed.owners v hv) (same_out (winner_of s v) (player_of (owner_at g v)) t)))) in
        let t = edge_in g v w j (record { inside = leaving.inside; source = refl; target = refl }) in
        let q = loser_stays g formed total v w hv hw o (record { inside = hw; along = t }) in
        leaving.leaves.away (player_one (winner_at s w) (winner_at s v) (leaving.winners w hw) (leaving.winners v hv) (sym f ∙ q ∙ e))
