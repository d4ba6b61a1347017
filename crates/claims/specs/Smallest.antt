-- CR 11's sentences, about slices after the reduced-game call, as the promise of `minimizes` of `claims_calls` states them. Another game is any
-- game of finitely many vertices: no limit of a table holds for it, and it need not be total.
use Rattle.std.specs.Prelude.{◌≡◌, List, [], ◌∷◌, ℕ}
use Rattle.std.proofs.Math.Bool.{So}
use Rattle.theory.specs.Games.Game.{Game}
use Rattle.theory.specs.Classes.Reduction.{reduced}
use Rattle.theory.specs.Classes.Minimal.{represents, AtLeast}
use Rattle.table.specs.Table.{game_of}
use Rattle.table.specs.Answers.{Answer, accepted}
use Rattle.table.specs.Reading.{read_answer}
use Rattle.reduction.specs.TableCall.{TableCall}
use Rattle.claims.specs.WrittenMemory.{written_table}

-- of an output that holds the table of the reduced game, n vertices and e edges
pub record SmallestSentences (game output : List ℕ) (n e : ℕ) : Type 0 where
  -- "that other game has at least as many vertices as the reduced game, and at least as many different edges"
  pub least : (H : Game) → So (represents H (game_of game)) → AtLeast n e H
  -- "The reduced game is itself such a game": the written table has n vertices and e different edges, and its game is such a game
  pub read : read_answer (written_table n e output) ≡ accepted (n ∷ e ∷ e ∷ [])
  pub itself : So (represents (game_of (written_table n e output)) (game_of game))

-- the reduced-game call
pub record Minimizes (game marks spare classes output : List ℕ) (answer : Answer) (marks' spare' classes' output' : List ℕ) : Type 0 where
  pub call : TableCall reduced game marks spare classes output answer marks' spare' classes' output'
  pub smallest : (k n e : ℕ) → answer ≡ accepted (k ∷ n ∷ e ∷ []) → SmallestSentences game output' n e
