-- The edges of one class as the code lists them: what its row has and is not dropped, ascending. No public promise cites these.
use Rattle.std.specs.Prelude.{◌≡◌, Bool, true, false, not, cond, List, [], ◌∷◌, ◌++◌, ℕ, zero, suc, ◌+◌, ◌*◌, ◌≤◌, ◌<◌, length, get_or}
use Rattle.theory.specs.Logic.Bools.{◌&◌}
use Rattle.theory.specs.Logic.Range.{pairs_below}
use Rattle.theory.specs.Games.Game.{Game}
use Rattle.theory.specs.Order.Passes.{Rel}
use Rattle.theory.specs.Order.Order.{order}
use Rattle.theory.specs.Classes.Reduction.{quotient_edge, reduced_edge, quotient, reduced}
use Rattle.words.specs.Words.{has}
use Rattle.table.specs.Table.{game_of}
use Rattle.table.specs.Placing.{placed}
use Rattle.table.specs.Listing.{targets_of}
use Rattle.classes.specs.Numbering.{Ordered}
use Rattle.reduction_rows.specs.Reached.{Grouped}

-- ---- edges that are kept

-- x is in the row and isn't dropped
unfoldable pub keeps : List ℕ → List ℕ → ℕ → Bool
keeps row dropped x = has row x & not (has dropped x)

-- the numbers below n that pass, ascending
unfoldable pub picked : ℕ → (ℕ → Bool) → List ℕ
picked zero p = []
picked (suc n) p = picked n p ++ cond (p n) (n ∷ []) []

-- the edge from c to d
abbrev pub edge_to : ℕ → ℕ → ℕ × ℕ
edge_to c d = (c, d)

-- the class of vertex x
abbrev pub number_of : List ℕ → ℕ → ℕ
number_of classes x = get_or classes x 0

-- behind e words there is room for as many as these
abbrev pub Room : ℕ → List ℕ → List ℕ → Type 0
Room e xs ends = e + length xs ≤ length ends

-- the words xs are put behind the first e words, and r is their count then
pub record Put (xs : List ℕ) (e : ℕ) (ends ends' : List ℕ) (r : ℕ) : Type 0 where
  pub count : r ≡ e + length xs
  pub after : ends' ≡ placed e xs ends

-- the targets of the edges of the first c of k classes stand from `at` on, and for each of these classes there is the place where its targets stop
pub record Listed (k : ℕ) (E : Rel) (at c : ℕ) (ends ends' stops : List ℕ) (r : ℕ) : Type 0 where
  pub targets : Put (targets_of (pairs_below k E (c * k))) at ends ends' r
  pub stop : (j : ℕ) → j < c → get_or stops j 0 ≡ at + length (pairs_below k E ((j + 1) * k))

-- the game of classes without and with dropped edges
unfoldable pub game_by : Bool → Game → Game
game_by false = quotient
game_by true = reduced

-- their edges between lowest members
unfoldable pub edge_by : Bool → Game → Rel
edge_by false G = quotient_edge G (order G)
edge_by true G = reduced_edge G (order G)

-- ---- what is known before the edges are listed

pub record Prepared (game marks classes reps : List ℕ) : Type 0 where
  pub grouped : Grouped game classes reps
  pub ordered : Ordered (game_of game) marks
