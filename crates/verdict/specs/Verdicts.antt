-- What holds after the verdict call: the sentences of demand 3, and what its answers say, about the slices that it leaves.
use Rattle.std.specs.Prelude.{◌≡◌, ◌↔◌, List, [], ◌∷◌, ℕ, get_or}
use Rattle.theory.specs.Games.Game.{edge_count}
use Rattle.theory.specs.Plans.Plan.{Won}
use Rattle.theory.specs.Classes.Reduction.{reduced}
use Rattle.table.specs.Table.{player_of, game_of}
use Rattle.table.specs.Answers.{Answer, accepted}
use Rattle.plan_links.specs.PlanTable.{vertex_at}
use Rattle.plan.specs.Acceptance.{plan_answer}
use Rattle.claims.specs.WrittenMemory.{written_table}
use Rattle.claims.specs.Sentences.{OnceWritten, OrderSentences, ClassSentence, TableSentences}
use Rattle.verdict.specs.VerdictCall.{VerdictCall}
use Rattle.verdict.specs.VerdictRules.{OfPlan}

-- of an answer with its last number, 1 for "wins" and 0 for "not shown"
pub record AnswerSentences (game : List ℕ) (vertex player : ℕ) (plan classes reduction : List ℕ) (n e shown : ℕ) : Type 0 where
  -- the plan passes the acceptor on the written table ..
  pub passes : plan_answer (written_table n e reduction) player plan ≡ accepted []
  -- .. and "wins" is said exactly if it starts at the written class of the vertex
  pub starts : (shown ≡ 1) ↔ (vertex_at plan 0 ≡ get_or classes vertex 0)
  -- "What it confirms must be true of the original game, by a winning plan there."
  pub true_there : shown ≡ 1 → Won (player_of player) (game_of game) vertex

pub record Verdicts (game : List ℕ) (vertex player : ℕ) (plan marks spare classes reduction : List ℕ) (answer : Answer)
    (marks' spare' classes' reduction' : List ℕ) : Type 0 where
  pub call : VerdictCall game vertex player plan marks spare classes reduction answer marks' spare' classes' reduction'
  pub marks_order : OnceWritten OfPlan answer (OrderSentences game marks')
  pub spare_order : OnceWritten OfPlan answer (OrderSentences game spare')
  pub classes_words : OnceWritten OfPlan answer (ClassSentence game classes')
  pub reduction_table : OnceWritten OfPlan answer (TableSentences game classes' reduction' (reduced (game_of game)).n (edge_count (reduced (game_of game))))
  pub answers : (k n e shown : ℕ) → answer ≡ accepted (k ∷ n ∷ e ∷ shown ∷ []) → AnswerSentences game vertex player plan classes' reduction' n e shown
