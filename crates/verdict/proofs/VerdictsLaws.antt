-- The sentences follow from what the verdict call promises.
use Rattle.std.specs.Prelude.{◌≡◌, refl, List, [], ◌∷◌, ◌++◌, ℕ, get_or}
use Rattle.std.proofs.Common.{sym, ap, ◌∙◌}
use Rattle.theory.specs.Games.Game.{edge_count}
use Rattle.theory.specs.Classes.Reduction.{reduced, class_of}
use Rattle.table.specs.Table.{game_of}
use Rattle.table.specs.Answers.{Answer, accepted, Clean}
use Rattle.table.specs.AnswersLaws.{accepted_inj, judge_accepted, clean_split}
use Rattle.reduction.specs.TableCall.{table_counts, class_table, TableCall}
use Rattle.plan.specs.WinningLaws.{plan_accepts}
use Rattle.claims.specs.Demands.{reduced_faithful, class_word, table_leaves_classes, passed, table_is}
use Rattle.claims.specs.Sentences.{OnceWritten, Tabulates}
use Rattle.claims.proofs.SentencesLaws.{once_map, tabulates}
use Rattle.verdict.specs.VerdictCall.{before_plan_rows, verdict_rows, shown_for, VerdictCall}
use Rattle.verdict.specs.VerdictRules.{VerdictFits, OfPlan}
use Rattle.verdict.proofs.VerdictRulesLaws.{verdict_accepted, verdict_passed, verdict_table}
use Rattle.verdict.specs.VerdictAnswers.{Wins}
use Rattle.verdict.proofs.ConfirmedLaws.{wins_exactly, confirmed}
use Rattle.verdict.specs.Verdicts.{AnswerSentences, Verdicts}

module _ {game : List ℕ} {vertex player : ℕ} {plan marks spare classes reduction : List ℕ} {answer : Answer} {marks' spare' classes' reduction' : List ℕ}
    (call : VerdictCall game vertex player plan marks spare classes reduction answer marks' spare' classes' reduction') where
  -- after either answer and after 11 to 16 the rows before 11 were passed
  pub front_passed : OnceWritten OfPlan answer (Clean (before_plan_rows game vertex marks spare classes reduction))
  unfolding verdict_rows
  front_passed = record {
    accepts = λ counts e. (clean_split (before_plan_rows game vertex marks spare classes reduction) _ (judge_accepted _ _ counts (sym call.verdict ∙ e)).0).0;
    refuses = verdict_passed call;
  }

  abbrev sentences : Clean (before_plan_rows game vertex marks spare classes reduction)
      → Tabulates reduced game marks spare classes reduction (accepted (table_counts reduced game)) marks' spare' classes' reduction'
  sentences c = tabulates reduced_faithful (verdict_table call c)

  module _ (k n e shown : ℕ) (says : answer ≡ accepted (k ∷ n ∷ e ∷ shown ∷ [])) where
    abbrev fits : VerdictFits game vertex player plan marks spare classes reduction
    fits = (verdict_accepted call _ says).0

    counts : k ∷ n ∷ e ∷ shown ∷ [] ≡ table_counts reduced game ++ (shown_for game vertex plan ∷ [])
    counts = (verdict_accepted call _ says).1

    abbrev table : TableCall reduced game marks spare classes reduction (accepted (table_counts reduced game)) marks' spare' classes' reduction'
    table = verdict_table call (front_passed.accepts _ says)

    -- the written class of the vertex
    word : get_or classes' vertex 0 ≡ class_of (game_of game) vertex
    word = class_word (table_leaves_classes table) (passed reduced_faithful table _ _ _ refl) vertex fits.vertex_in

    says_wins : shown ≡ 1 → Wins game answer
    says_wins h =
        let s : shown_for game vertex plan ≡ 1 = sym (ap (λ (xs : List ℕ). get_or xs 3 0) counts) ∙ h in
        says ∙ ap accepted counts ∙ ap (λ (y : ℕ). accepted (table_counts reduced game ++ (y ∷ []))) s

    said_wins : Wins game answer → shown ≡ 1
    said_wins w = ap (λ (xs : List ℕ). get_or xs 3 0) (accepted_inj (sym says ∙ w))

    answer_sentences : AnswerSentences game vertex player plan classes' reduction' n e shown
    answer_sentences = record {
      passes =
          let vertices : n ≡ (reduced (game_of game)).n = ap (λ (xs : List ℕ). get_or xs 1 0) counts in
          let edges : e ≡ edge_count (reduced (game_of game)) = ap (λ (xs : List ℕ). get_or xs 2 0) counts in
          rw (vertices, edges, table_is reduced_faithful table _ _ _ refl) (plan_accepts (class_table reduced game) player plan fits.accepts);
      starts = (
        λ h. ((wins_exactly call).0 (says_wins h)).1 ∙ sym word,
        λ h. said_wins ((wins_exactly call).1 (fits, h ∙ word)),
      );
      true_there = λ h. confirmed call (says_wins h);
    }

  pub verdicts : Verdicts game vertex player plan marks spare classes reduction answer marks' spare' classes' reduction'
  verdicts = record {
    call = call;
    marks_order = once_map front_passed (λ c. (sentences c).marks_order _ refl);
    spare_order = once_map front_passed (λ c. (sentences c).spare_order _ refl);
    classes_words = once_map front_passed (λ c. (sentences c).classes_words _ refl);
    reduction_table = once_map front_passed (λ c. (sentences c).output_table _ _ _ refl);
    answers = answer_sentences;
  }
