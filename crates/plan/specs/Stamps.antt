-- What the search for unanswered successors keeps: a stamp on each vertex that a link of the position leads to.
use Rattle.std.specs.Prelude.{◌≡◌, Bool, not, cond, List, ℕ, ◌≤◌, ◌<◌, eqb, length, get_or}
use Rattle.theory.specs.Logic.Range.{any_from}
use Rattle.table.specs.Limits.{vertex_limit}
use Rattle.index.specs.Index.{among, Indexed, EdgeIndex}
use Rattle.plan_links.specs.PlanTable.{position_count, vertex_at}
use Rattle.plan_links.specs.PlanFormed.{PlanFormed, WordsPass}
use Rattle.plan_links.specs.LinkIndex.{LinkIndex}

-- position j stands at vertex x
unfoldable pub stands_at : List ℕ → ℕ → ℕ → Bool
stands_at w x j = eqb (vertex_at w j) x

-- the vertices at which the targets from a to t stand are stamped, and the others are as before
pub record StampedTo (w targets : List ℕ) (a t stamp : ℕ) (old new : List ℕ) : Type 0 where
  pub at : (x : ℕ) → get_or new x 0 ≡ cond (any_from a t (λ k. stands_at w x (get_or targets k 0))) stamp (get_or old x 0)

-- the same for the whole group of position i
pub record Stamped (w starts targets : List ℕ) (i stamp : ℕ) (old new : List ℕ) : Type 0 where
  pub at : (x : ℕ) → get_or new x 0 ≡ cond (among starts targets i (stands_at w x)) stamp (get_or old x 0)

-- vertex x has no stamp
unfoldable pub unstamped : List ℕ → ℕ → ℕ → Bool
unstamped stamps stamp x = not (eqb (get_or stamps x 0) stamp)

-- target k has no stamp
unfoldable pub unstamped_target : List ℕ → ℕ → List ℕ → ℕ → Bool
unstamped_target stamps stamp targets k = unstamped stamps stamp (get_or targets k 0)

-- no link of i leads to a position at vertex x
unfoldable pub unanswered : List ℕ → List ℕ → List ℕ → ℕ → ℕ → Bool
unanswered w starts targets i x = not (among starts targets i (stands_at w x))

-- ---- what the searches ask

-- position i of a plan in a game of n vertices, both indexed, and room for a stamp on each vertex
pub record AnswerSpace (n : ℕ) (w starts targets edgeStarts edgeTargets stamps : List ℕ) (i : ℕ) : Type 0 where
  pub formed : PlanFormed n w
  pub few : n ≤ vertex_limit
  pub room : n ≤ length stamps
  pub position : i < position_count w
  pub links : Indexed (position_count w) starts targets
  pub edges : Indexed n edgeStarts edgeTargets

-- a game, a player's number and a plan that pass 1 to 13, indexes of both, and room for a stamp on each vertex
pub record LackSpace (g : List ℕ) (player : ℕ) (w starts targets edgeStarts edgeTargets stamps : List ℕ) : Type 0 where
  pub pass : WordsPass g player w
  pub links : LinkIndex w starts targets
  pub edges : EdgeIndex g edgeStarts edgeTargets
  pub room : vertex_limit ≤ length stamps
