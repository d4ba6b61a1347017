-- The rows 81 to 84 compute the rules, and none applies exactly if the solution's words are chosen as they should be.
use Rattle.std.proofs.Common.{inl, inr, arith}
use Rattle.std.specs.Prelude.{◌≢◌, ◌↔◌, List, ℕ, ◌*◌, ◌<◌, length}
use Rattle.std.proofs.Math.Bool.{So}
use Rattle.std.proofs.Math.Decide.{dec_lt, ℕ_discrete}
use borrow.Author.Tests.{leb-true, le-leb, eqb-true, eq-eqb}
use Rattle.theory.proofs.Logic.BoolsLaws.{and_in, and_out, or_says}
use Rattle.table.specs.Table.{vertex_count, table_edges, source_at, target_at}
use Rattle.table.specs.Answers.{Clean}
use Rattle.table.specs.Rules.{Some, NoRule, no_rule, fails, Rendered, none, next}
use Rattle.table.specs.RulesLaws.{renders_placed, renders_first, clean_none, none_clean}
use Rattle.table.specs.ReadingLaws.{differs}
use Rattle.large_table.specs.Reading.{LargeFormed}
use Rattle.large_table.specs.WordsLaws.{formed_table}
use Rattle.large_moves.specs.Moves.{winner_at, move_at, move_strays, keeps_edge, edge_leaves, first_winner, first_stray, first_leaving, move_rows, Lengths}
use Rattle.large_moves.specs.Chosen.{Chosen}
use Rattle.large_moves.specs.MoveRules.{Strays, Keeps, Leaves, move_rules}

module _ (g s : List ℕ) where
  abbrev n : ℕ
  n = vertex_count g

  abbrev m : ℕ
  m = table_edges g

  -- ---- what the tests say

  strays_says : (v : ℕ) → So (move_strays g s n m v) ↔ Strays g s v
  unfolding move_strays
  strays_says v = or_says (leb-true m (move_at s n v), le-leb m (move_at s n v)) (differs _ _)

  pub keeps_says : (j : ℕ) → So (keeps_edge g s n (source_at g j) j) ↔ Keeps g s j
  unfolding keeps_edge
  keeps_says j = or_says (differs _ _) (eqb-true _ _, eq-eqb _ _)

  leaves_says : (j : ℕ) → So (edge_leaves g s n m j) ↔ Leaves g s j
  unfolding edge_leaves
  leaves_says j = (
    λ t. let x = and_out t in record { away = (differs _ _).0 x.0; keeps = (keeps_says j).0 x.1 },
    λ l. and_in ((differs _ _).1 l.away) ((keeps_says j).1 l.keeps),
  )

  pub move_rows_render : Rendered (move_rows g s) (move_rules g s)
  unfolding move_rows first_winner first_stray first_leaving
  move_rows_render =
      next (renders_placed 81 (length s) _ _ (differs (length s) (2 * n)))
      (next (renders_first 82 _ _ 0 n (λ v. v) (omega arith) (λ v. (leb-true 2 (winner_at s v), le-leb 2 (winner_at s v))))
      (next (renders_first 83 (move_strays g s n m) (Strays g s) 0 n (λ v. v) (omega arith) strays_says)
      (next (renders_first 84 (edge_leaves g s n m) (Leaves g s) 0 m (λ j. j) (omega arith) leaves_says)
      none)))

  -- ---- no rule applies

  none_chosen : NoRule (move_rules g s) → Chosen g s
  none_chosen (fails d₁ (fails d₂ (fails d₃ (fails d₄ no_rule)))) = record {
    words = elim (ℕ_discrete (length s) (2 * n)) [ yes e ↦ e | no e ↦ absurd (d₁ e) ];
    winners = λ v h. elim (dec_lt 1 (winner_at s v)) [ yes l ↦ absurd (d₂ (v, omega arith, h, l)) | no l ↦ omega arith ];
    move = λ v h. elim (dec_lt (move_at s n v) m) [ yes l ↦ l | no l ↦ absurd (d₃ (v, omega arith, h, inl (omega arith))) ];
    own = λ v h. elim (ℕ_discrete (source_at g (move_at s n v)) v) [ yes e ↦ e | no e ↦ absurd (d₃ (v, omega arith, h, inr e)) ];
    stays = λ j h t. elim (ℕ_discrete (winner_at s (target_at g j)) (winner_at s (source_at g j))) [
      | yes e ↦ e
      | no e ↦ absurd (d₄ (j, omega arith, h, record { away = e; keeps = (keeps_says j).0 t }))
    ];
  }

  chosen_none : Chosen g s → NoRule (move_rules g s)
  chosen_none x =
      fails (λ (d : length s ≢ 2 * n). d x.words)
      (fails (λ (r : Some (λ v. 1 < winner_at s v) 0 n). omega (arith, r.3, x.winners r.0 r.2))
      (fails (λ (r : Some (Strays g s) 0 n). elim r.3 [ inl l ↦ omega (arith, x.move r.0 r.2) | inr d ↦ d (x.own r.0 r.2) ])
      (fails (λ (r : Some (Leaves g s) 0 m). r.3.away (x.stays r.0 r.2 ((keeps_says r.0).1 r.3.keeps)))
      no_rule)))

  pub clean_chosen : Clean (move_rows g s) → Chosen g s
  clean_chosen c = none_chosen (clean_none move_rows_render c)

  pub chosen_clean : Chosen g s → Clean (move_rows g s)
  chosen_clean x = none_clean move_rows_render (chosen_none x)

  -- ---- for the tests of a formed game

  pub chosen_lengths : LargeFormed g → Chosen g s → Lengths g s n m
  chosen_lengths formed x = record { game = formed_table g formed; solution = x.words }
