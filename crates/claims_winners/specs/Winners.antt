-- Who wins, about slices: at each vertex of an accepted game exactly one player has a plan that passes, and at its class in a written table the
-- same player has. The functions of this crate promise it of the order call and of each call that leaves a game of classes.
use Rattle.std.specs.Prelude.{◌≡◌, List, [], ◌∷◌, ℕ, ◌<◌, get_or}
use Rattle.theory.specs.Games.Game.{even, odd, Game, edge_count}
use Rattle.theory.proofs.Winners.DeterminacyLaws.{winner}
use Rattle.theory.specs.Classes.Reduction.{reduced}
use Rattle.table.specs.Table.{vertex_count, game_of}
use Rattle.table.specs.TableWords.{owner_word}
use Rattle.table.specs.Answers.{Answer, accepted}
use Rattle.marks.specs.Marks.{Marked}
use Rattle.order.specs.OrderCall.{OrderCall}
use Rattle.reduction.specs.TableCall.{TableCall}
use Rattle.carry.specs.CarryCall.{CarryClassCall}
use Rattle.carry.specs.WrittenPlan.{PlanFrom}
use Rattle.claims.specs.WrittenMemory.{written_table}
use Rattle.claims.specs.Sentences.{OnAcceptance, OnceWritten, AfterReduction}
use Rattle.verdict.specs.VerdictCall.{VerdictCall}
use Rattle.verdict.specs.VerdictRules.{OfPlan}

-- the winner's number as a player: 0 Even, 1 Odd
abbrev pub winner_of : List ℕ → ℕ → ℕ
winner_of game v = owner_word (winner (game_of game) v)

-- At v exactly one player has a plan: some plan within the limits passes the acceptor for the winner, and none passes for the other. So where a plan
-- doesn't show a win, that is a matter of the plan: the game has one that shows it, for this player or for the other.
pub record Decided (game : List ℕ) (v : ℕ) : Type 0 where
  pub plan : List ℕ
  pub passes : PlanFrom game (winner_of game v) v plan
  pub only : (player : ℕ) (words : List ℕ) → PlanFrom game player v words → player ≡ winner_of game v

-- at each vertex
abbrev pub AllDecided : List ℕ → Type 0
AllDecided game = (v : ℕ) → v < vertex_count game → Decided game v

-- of a buffer that holds the written order: along it the winner changes in Even's favour only
pub record OrderWinners (game buffer : List ℕ) : Type 0 where
  pub even_up : (v w : ℕ) → v < vertex_count game → w < vertex_count game → Marked (vertex_count game) buffer v w
      → winner (game_of game) v ≡ even → winner (game_of game) w ≡ even
  pub odd_down : (v w : ℕ) → v < vertex_count game → w < vertex_count game → Marked (vertex_count game) buffer v w
      → winner (game_of game) w ≡ odd → winner (game_of game) v ≡ odd

-- of memory that holds the order, the classes and the table of a game of classes, n vertices and e edges
pub record TableWinners (game marks spare classes output : List ℕ) (n e : ℕ) : Type 0 where
  pub decided : AllDecided game
  pub marks_winners : OrderWinners game marks
  pub spare_winners : OrderWinners game spare
  -- the winner at a vertex is the winner at its class in the written table, whose vertices are decided as well
  pub same : (v : ℕ) → v < vertex_count game → winner (game_of game) v ≡ winner (game_of (written_table n e output)) (get_or classes v 0)
  pub table_decided : AllDecided (written_table n e output)

-- ---- what holds after each call

-- the order call
pub record OrderDecides (game marks spare : List ℕ) (answer : Answer) (marks' spare' : List ℕ) : Type 0 where
  pub call : OrderCall game marks spare answer marks' spare'
  pub decided : OnAcceptance answer (AllDecided game)
  pub marks_winners : OnAcceptance answer (OrderWinners game marks')
  pub spare_winners : OnAcceptance answer (OrderWinners game spare')

-- a call that writes the game K of classes: the quotient or the reduced game
pub record TableDecides (K : Game → Game) (game marks spare classes output : List ℕ) (answer : Answer) (marks' spare' classes' output' : List ℕ) : Type 0 where
  pub call : TableCall K game marks spare classes output answer marks' spare' classes' output'
  pub winners : (k n e : ℕ) → answer ≡ accepted (k ∷ n ∷ e ∷ []) → TableWinners game marks' spare' classes' output' n e

-- the call that carries a plan on the reduced game: accepted, and refused after the reduced game is written
pub record CarryDecides (game : List ℕ) (player : ℕ) (plan : List ℕ) (vertex : ℕ) (marks spare classes reduction output : List ℕ) (answer : Answer)
    (marks' spare' classes' reduction' output' : List ℕ) : Type 0 where
  pub call : CarryClassCall game player plan vertex marks spare classes reduction output answer marks' spare' classes' reduction' output'
  pub winners : OnceWritten AfterReduction answer
      (TableWinners game marks' spare' classes' reduction' (reduced (game_of game)).n (edge_count (reduced (game_of game))))

-- the verdict call: after either answer, and refused after the reduced game is written
pub record VerdictDecides (game : List ℕ) (vertex player : ℕ) (plan marks spare classes reduction : List ℕ) (answer : Answer)
    (marks' spare' classes' reduction' : List ℕ) : Type 0 where
  pub call : VerdictCall game vertex player plan marks spare classes reduction answer marks' spare' classes' reduction'
  pub winners : OnceWritten OfPlan answer (TableWinners game marks' spare' classes' reduction' (reduced (game_of game)).n (edge_count (reduced (game_of game))))
