-- What the answers of the verdict call mean: "wins" is given exactly where the plan passes and starts at the vertex's class, and is true of the
-- original game.
use Rattle.std.specs.Prelude.{◌≡◌, refl, ◌↔◌, ◌≢◌, Bool, ℕ, eqb}
use Rattle.std.proofs.Common.{sym, ◌∙◌}
use Rattle.std.proofs.Math.Path.{ap}
use mathlib.Core.List.{List, [], ◌∷◌, ◌++◌}
use Rattle.std.proofs.Math.ListN.{get_or}
use borrow.Author.Tests.{eqb-true, eqb-false, eq-eqb, ne_eqb}
use Rattle.theory.specs.Logic.Bools.{bit}
use Rattle.theory.proofs.Logic.BoolsLaws.{bit_in, bit_out, bit_clear}
use Rattle.theory.specs.Plans.Plan.{Won}
use Rattle.theory.specs.Classes.Reduction.{reduced, class_of}
use Rattle.table.specs.Table.{player_of, game_of}
use Rattle.table.specs.Answers.{Answer, accepted}
use Rattle.reduction.specs.TableCall.{table_counts, class_table}
use Rattle.plan_links.specs.PlanTable.{vertex_at, plan_of}
use Rattle.claims.specs.Demands.{reduced_faithful, class_word, table_leaves_classes, passed, table_is, table_winner}
use Rattle.verdict.specs.VerdictCall.{shown_for, VerdictCall}
use Rattle.verdict.specs.VerdictAnswers.{Wins, NotShown}
use Rattle.verdict.specs.VerdictRules.{VerdictFits}
use Rattle.verdict.proofs.VerdictRulesLaws.{front_fits, verdict_table, verdict_accepted, verdict_accepts}

module _ {game : List ℕ} {vertex player : ℕ} {plan marks spare classes reduction : List ℕ} {answer : Answer} {marks' spare' classes' reduction' : List ℕ}
    (call : VerdictCall game vertex player plan marks spare classes reduction answer marks' spare' classes' reduction') where
  abbrev Fits : Type 0
  Fits = VerdictFits game vertex player plan marks spare classes reduction

  abbrev class : ℕ
  class = class_of (game_of game) vertex

  abbrev starts : Bool
  starts = eqb (vertex_at plan 0) class

  -- an answer with this last number
  says : (x : ℕ) → answer ≡ accepted (table_counts reduced game ++ (x ∷ [])) → Fits × (x ≡ bit starts)
  unfolding shown_for
  says x e =
      let a = verdict_accepted call _ e in
      (a.0, ap (λ (xs : List ℕ). get_or xs 3 0) a.1)

  said : Fits → (x : ℕ) → bit starts ≡ x → answer ≡ accepted (table_counts reduced game ++ (x ∷ []))
  unfolding shown_for
  said f x e = verdict_accepts call f ∙ ap (λ (y : ℕ). accepted (table_counts reduced game ++ (y ∷ []))) e

  -- "It answers that the player wins at the vertex exactly if the plan passes there and starts at the vertex's class"
  pub wins_exactly : Wins game answer ↔ (Fits × (vertex_at plan 0 ≡ class))
  wins_exactly = (
    λ e. let s = says 1 e in (s.0, eqb-true (vertex_at plan 0) class (bit_out starts (sym s.1))),
    λ f. said f.0 1 (bit_in (eq-eqb (vertex_at plan 0) class f.1)),
  )

  -- "A good plan that starts elsewhere gives 'not shown'", also where its start class is below the vertex's
  pub not_shown_exactly : NotShown game answer ↔ (Fits × (vertex_at plan 0 ≢ class))
  unfolding bit
  not_shown_exactly = (
    λ e. let s = says 0 e in (s.0, eqb-false (vertex_at plan 0) class (bit_clear starts (sym s.1))),
    λ f. said f.0 0 (ap bit (ne_eqb (vertex_at plan 0) class f.1)),
  )

  -- "What it confirms must be true of the original game, by a winning plan there": by the transfer of winners
  pub confirmed : Wins game answer → Won (player_of player) (game_of game) vertex
  confirmed e =
      let (f, s) = wins_exactly.0 e in
      let t = verdict_table call (front_fits game vertex marks spare classes reduction f.table_fits f.vertex_in) in
      let w : Won (player_of player) (game_of (class_table reduced game)) class = (plan_of plan, rw s at f.accepts.wins) in
      (table_winner reduced_faithful t _ _ _ refl (player_of player) vertex f.vertex_in).1
      (rw (table_is reduced_faithful t _ _ _ refl, class_word (table_leaves_classes t) (passed reduced_faithful t _ _ _ refl) vertex f.vertex_in) w)
