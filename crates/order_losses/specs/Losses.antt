-- The rows of a game's edges, a relation in rows, and what its rows lost.
use Rattle.std.specs.Prelude.{Bool, List, ℕ, ◌+◌, ◌*◌}
use Rattle.theory.specs.Order.Passes.{Rel}
use Rattle.theory.specs.Games.Game.{Game}
use Rattle.words.specs.Words.{has}
use Rattle.order_sets.specs.Sets as sets
use Rattle.order_sets.specs.Losses.{EdgeSets, EdgesIn, falling_in, Whole, FellIn, GameLosses}
use Rattle.order_rows.specs.Bits.{row_bits, row_words, cell}

-- ---- edges

-- rows of successors, rows of predecessors, and one of Odd's vertices
abbrev pub edge_words : ℕ
edge_words = (2 * row_bits + 1) * row_words

-- row v holds the successors of v, row row_bits + v its predecessors, and row 2 * row_bits Odd's vertices
abbrev pub EdgeRows : Game → List ℕ → Type 0
EdgeRows G edges = EdgeSets row_bits G (cell edges)

-- of `near` those of a player's, and those of the other's without a successor in x
abbrev pub falling_rows : List ℕ → List ℕ → List ℕ → List ℕ → ℕ → Bool
falling_rows edges near player x w = falling_in row_bits (cell edges) (has near) (has player) (has x) w

-- l and x together are all vertices
abbrev pub Vertices : Game → List ℕ → List ℕ → Type 0
Vertices G l x = Whole row_bits G (has l) (has x)

-- the first j edges of the table are in the rows
abbrev pub EdgesTo : List ℕ → ℕ → List ℕ → Type 0
EdgesTo g j edges = EdgesIn row_bits g j (cell edges)

-- ---- a relation, and what it lost

abbrev pub relation_words : ℕ
relation_words = row_bits * row_words

-- of all rows, those of a set of vertices
abbrev pub struck : List ℕ → List ℕ → Rel
struck rows words = sets.struck (has rows) (cell words)

-- each row of `falls` that changed holds the fall of that row, as far as a predecessor of Even's asks: what leaves its controllable predecessors
abbrev pub Fell : Game → List ℕ → List ℕ → List ℕ → List ℕ → Type 0
Fell G related lost falls changed = FellIn row_bits G (cell related) (cell lost) (cell falls) (has changed)

-- what the vertices of `near` before k lose is in their rows, and those that lose something are in `losing`
abbrev pub LossesTo : List ℕ → List ℕ → List ℕ → List ℕ → List ℕ → List ℕ → ℕ → List ℕ → List ℕ → Type 0
LossesTo edges related lost falls changed near k next losing =
    GameLosses row_bits (cell edges) (cell related) (cell lost) (cell falls) (has changed) (has near) k (cell next) (has losing)
