-- What an accepted call wrote: a plan that passes the acceptor for the same player on the original game, and starts at the vertex.
use Rattle.std.specs.Prelude.{◌≡◌}
use Rattle.std.proofs.Math.Path.{refl, sym, ap, ap₂, subst}
use Rattle.std.proofs.Common.{◌∙◌, add_assoc, arith, length-append, take_at}
use mathlib.Core.List.{List, [], ◌∷◌, ◌++◌, map}
use Prim.Native.Nat.{ℕ, ◌+◌, ◌≤◌, ◌<◌}
use Rattle.std.proofs.Math.ListN.{length, get_or, length-map, get_or-append, get_or-map}
use Rattle.std.proofs.Math.Seq.{get_or-append-add}
use Rattle.theory.proofs.Logic.ListLaws.{tabulate_by}
use Rattle.theory.proofs.Plans.LinkLaws.{pair_is_lem}
use Rattle.theory.specs.Plans.Plan.{Plan, Wins}
use Rattle.theory.specs.Classes.Reduction.{reduced}
use Rattle.theory.proofs.Games.AgreementLaws.{agree_wins}
use Rattle.theory.specs.Carry.Carry.{class_no_better}
use Rattle.theory.proofs.Carry.CarryLaws.{carried_plan_wins, carried_class_plan_wins}
use Rattle.table.specs.Limits.{position_limit, link_limit}
use Rattle.table.specs.Table.{player_of, game_of}
use Rattle.table.specs.TableWords.{edges_of}
use Rattle.table.specs.TableWordsLaws.{table_words_agree, edges_of_lists}
use Rattle.table.specs.Answers.{accepted, written}
use Rattle.table.specs.AnswersLaws.{after_accepted}
use Rattle.table.specs.WellFormed.{WellFormed}
use Rattle.reduction.specs.TableCall.{class_table}
use Rattle.plan_links.specs.PlanTable.{vertex_at, link_source, link_target, plan_length, plan_of}
use Rattle.plan_links.specs.PlanFormed.{PlanSized}
use Rattle.plan.specs.WinningLaws.{plan_accepts}
use Rattle.carry_output.specs.PlanWords.{plan_words, plan_counts}
use Rattle.carry.specs.CarryCall.{carried_to, carry_rows, CarryCall, carried_from_class, carry_class_rows, CarryClassCall}
use Rattle.carry.proofs.CarryRulesLaws.{carry_accepted, carry_class_accepted}
use Rattle.carry.specs.WrittenPlan.{written_plan, PlanFrom}

-- ---- the plan of its words

module _ (P : Plan) where
  abbrev p : ℕ
  p = length P.vertices

  abbrev l : ℕ
  l = length P.links

  abbrev sources : List ℕ
  sources = map (λ x. x.0) P.links

  abbrev targets : List ℕ
  targets = map (λ x. x.1) P.links

  pub length_words : length (plan_words P) ≡ plan_length p l
  unfolding plan_words
  length_words = simp (length-append, length-map) (omega arith)

  vertex_word : (i : ℕ) → i < p → vertex_at (plan_words P) i ≡ get_or P.vertices i 0
  unfolding plan_words
  vertex_word i h = get_or-append-add (p ∷ l ∷ []) (P.vertices ++ (sources ++ targets)) i 0 ∙ get_or-append P.vertices (sources ++ targets) 0 i h

  source_word : (k : ℕ) → k < l → link_source (plan_words P) k ≡ (get_or P.links k (0, 0)).0
  unfolding plan_words
  source_word k h =
      ap (λ (j : ℕ). get_or (plan_words P) j 0) (add_assoc 2 p k) ∙ get_or-append-add (p ∷ l ∷ []) (P.vertices ++ (sources ++ targets)) (p + k) 0
      ∙ get_or-append-add P.vertices (sources ++ targets) k 0
      ∙ get_or-append sources targets 0 k (rw (length-map P.links (λ x. x.0)) h)
      ∙ get_or-map (λ (x : ℕ × ℕ). x.0) P.links k (0, 0)

  target_word : (k : ℕ) → link_target (plan_words P) k ≡ (get_or P.links k (0, 0)).1
  unfolding plan_words
  target_word k =
      let e : 2 + p + l + k ≡ 2 + (p + (length sources + k)) = omega (arith, length-map P.links (λ x. x.0)) in
      ap (λ (j : ℕ). get_or (plan_words P) j 0) e ∙ get_or-append-add (p ∷ l ∷ []) (P.vertices ++ (sources ++ targets)) (p + (length sources + k)) 0
      ∙ get_or-append-add P.vertices (sources ++ targets) (length sources + k) 0
      ∙ get_or-append-add sources targets k 0
      ∙ get_or-map (λ (x : ℕ × ℕ). x.1) P.links k (0, 0)

  pub plan_of_words : plan_of (plan_words P) ≡ P
  unfolding plan_of plan_words
  plan_of_words =
      ap₂ (λ (vs : List ℕ) (ks : List (ℕ × ℕ)). record { vertices = vs; links = ks })
      (sym (tabulate_by p (vertex_at (plan_words P)) 0 P.vertices refl (λ i h. sym (vertex_word i h))))
      (sym (tabulate_by l (λ k. (link_source (plan_words P) k, link_target (plan_words P) k)) (0, 0) P.links refl
      (λ k h. pair_is_lem (sym (source_word k h)) (sym (target_word k)))))

-- ---- the words that the calls leave

-- the words of a plan C that wins from y and is within the limits
module _ {game : List ℕ} {player y : ℕ} (C : Plan) (well : WellFormed game) (number : player ≤ 1)
    (positions : length C.vertices ≤ position_limit) (links : length C.links ≤ link_limit) (wins : Wins (player_of player) (game_of game) C y) where
  pub plan_from : PlanFrom game player y (plan_words C)
  unfolding plan_words
  plan_from =
      let s : vertex_at (plan_words C) 0 ≡ y = vertex_word C 0 wins.some ∙ wins.start in record {
        accepted = plan_accepts game player (plan_words C) (record {
          game = well;
          number = number;
          sized = words_sized;
          wins = subst (λ (P : Plan). Wins (player_of player) (game_of game) P (vertex_at (plan_words C) 0)) (sym (plan_of_words C)) (rw s wins);
        });
        start = s;
      }
    where
      words_sized : PlanSized (plan_words C)
      words_sized = record { some = wins.some; positions = positions; links = links; size = length_words C }

  -- behind it stands old content
  written_from : (p l : ℕ) (output output' : List ℕ) → p ∷ l ∷ [] ≡ plan_counts C → output' ≡ written (plan_words C) output
      → PlanFrom game player y (written_plan p l output')
  unfolding written
  written_from p l output output' e f =
      let hp : p ≡ length C.vertices = cc e in
      let hl : l ≡ length C.links = cc e in
      subst (PlanFrom game player y) (sym (rw (f, hp, hl) (take_at (plan_words C) _ _ (length_words C)))) plan_from

-- "The outcome must pass the plan acceptor for the same player", and the plan starts at the vertex
module _ {game : List ℕ} {player : ℕ} {plan : List ℕ} {vertex : ℕ} {marks spare output marks' spare' output' : List ℕ} {p l : ℕ}
    (call : CarryCall game player plan vertex marks spare output (accepted (p ∷ l ∷ [])) marks' spare' output') where
  pub carry_wins : PlanFrom game player vertex (written_plan p l output')
  unfolding game_of
  carry_wins =
      let (f, e) = carry_accepted call _ refl in
      written_from (carried_to game player plan vertex) f.order_fits.game f.accepts.number f.arriving.positions f.arriving.links
      (carried_plan_wins (player_of player) (game_of game) (plan_of plan) (vertex_at plan 0) vertex f.accepts.wins f.arriving.vertex f.arriving.in_order)
      p l output output' e (call.output_after ∙ after_accepted (carry_rows game player plan vertex marks spare output) _ _ output (sym call.verdict))

module _ {game : List ℕ} {player : ℕ} {plan : List ℕ} {vertex : ℕ} {marks spare classes reduction output : List ℕ}
    {marks' spare' classes' reduction' output' : List ℕ} {k n e p l : ℕ}
    (call : CarryClassCall game player plan vertex marks spare classes reduction output (accepted (k ∷ n ∷ e ∷ p ∷ l ∷ [])) marks' spare' classes' reduction' output') where
  pub carry_class_wins : PlanFrom game player vertex (written_plan p l output')
  unfolding game_of class_no_better
  carry_class_wins =
      let (f, q) = carry_class_accepted call _ refl in
      let R = reduced (game_of game) in
      let wins =
      agree_wins (player_of player) (game_of (class_table reduced game)) R (table_words_agree R (edges_of R) (edges_of_lists R)) (plan_of plan) (vertex_at plan 0) f.accepts.wins in
      written_from (carried_from_class game player plan vertex) f.table_fits.classes_fit.order_fits.game f.accepts.number f.arriving.positions f.arriving.links
      (carried_class_plan_wins (player_of player) (game_of game) (plan_of plan) (vertex_at plan 0) vertex wins f.arriving.vertex f.arriving.in_order)
      p l output output' (cc q)
      (call.output_after ∙ after_accepted (carry_class_rows game player plan vertex marks spare classes reduction output) _ _ output (sym call.verdict))
