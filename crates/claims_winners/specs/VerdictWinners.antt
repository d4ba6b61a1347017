-- What "not shown" leaves open is a matter of the plan and not of the game: document 02, CR 14. The verdict call's "wins" is open to exactly one
-- player at each vertex, whatever the memory holds that it is lent.
use Rattle.std.specs.Prelude.{◌≡◌, List, ℕ}
use Rattle.table.specs.Answers.{Answer}
use Rattle.verdict.specs.VerdictCall.{VerdictCall}
use Rattle.verdict.specs.VerdictAnswers.{Wins}
use Rattle.claims_winners.specs.Winners.{winner_of}

-- some plan makes it say "wins" for the winner, and none for the other
pub record WinnerShown (game : List ℕ) (vertex : ℕ) (marks spare classes reduction : List ℕ) : Type 0 where
  pub plan : List ℕ
  pub shows : {answer : Answer} {marks' spare' classes' reduction' : List ℕ}
      → VerdictCall game vertex (winner_of game vertex) plan marks spare classes reduction answer marks' spare' classes' reduction' → Wins game answer
  pub only : (player : ℕ) (words : List ℕ) {answer : Answer} {marks' spare' classes' reduction' : List ℕ}
      → VerdictCall game vertex player words marks spare classes reduction answer marks' spare' classes' reduction' → Wins game answer
      → player ≡ winner_of game vertex
