-- Rows of bits, one for each vertex, in which a class stands as its lowest member: the classes that a vertex reaches, and then those that every
-- member of a class reaches. No public promise cites these.
use Rattle.std.specs.Prelude.{◌≡◌, Bool, List, ℕ, ◌+◌, ◌*◌, ◌/◌, ◌≤◌, ◌<◌, eqb, length}
use Rattle.theory.specs.Logic.Bools.{◌&◌, imp}
use Rattle.theory.specs.Logic.Range.{all_below}
use Rattle.theory.specs.Games.Game.{Game}
use Rattle.theory.specs.Order.Order.{any_next, order}
use Rattle.theory.specs.Classes.Reduction.{lowest, is_lowest, representative, quotient_edge}
use Rattle.words.specs.Words.{has}
use Rattle.table.specs.Table.{vertex_count, source_at, target_at, game_of}
use Rattle.table.specs.WellFormed.{WellFormed}
use Rattle.classes.specs.Numbering.{Classed, Represented, classes_in}

-- ---- rows

-- words of a row of n bits
abbrev pub words_for : ℕ → ℕ
words_for n = (n + 63) / 64

-- x is in row v
unfoldable pub in_row : ℕ → List ℕ → ℕ → ℕ → Bool
in_row width words v x = has words (v * width * 64 + x)

-- rows of that many words for all vertices
pub record RowsFit (game : List ℕ) (width : ℕ) (words : List ℕ) : Type 0 where
  pub wide : width ≡ words_for (vertex_count game)
  pub long : vertex_count game * width ≤ length words

-- ---- classes

-- the lowest member of v's class
unfoldable pub lowest_of : Game → ℕ → ℕ
lowest_of G v = lowest G.n (order G) v

-- the class numbers and the representatives of a well-formed game
pub record Grouped (game classes reps : List ℕ) : Type 0 where
  pub well : WellFormed game
  pub classed : Classed (game_of game).n (order (game_of game)) classes
  pub represented : Represented (game_of game).n (order (game_of game)) reps

-- ---- what is reached

-- v has a successor in the class of x, its lowest member
unfoldable pub reaches : Game → ℕ → ℕ → Bool
reaches G v x = any_next G v (λ w. eqb (lowest_of G w) x)

-- where edge j is put: the class of its target in the row of its source
unfoldable pub edge_place : List ℕ → ℕ → ℕ → ℕ
edge_place game width j = source_at game j * width * 64 + lowest_of (game_of game) (target_at game j)

-- each row has what its vertex reaches
pub record Reaching (G : Game) (width : ℕ) (words : List ℕ) : Type 0 where
  pub at : (v x : ℕ) → v < G.n → x < width * 64 → in_row width words v x ≡ reaches G v x

-- row r now has what was in row v too
pub record Met (width r v : ℕ) (old new : List ℕ) : Type 0 where
  pub at : (u x : ℕ) → x < width * 64 → in_row width new u x ≡ in_row width old u x & imp (eqb u r) (in_row width old v x)

-- each row now has what was in the rows of all members below v, of the class of its vertex
pub record MembersMet (G : Game) (width v : ℕ) (old new : List ℕ) : Type 0 where
  pub at : (u x : ℕ) → x < width * 64
      → in_row width new u x ≡ in_row width old u x & all_below v (λ w. imp (eqb (lowest_of G w) u) (in_row width old w x))

-- the row of each representative has the lowest members of the classes to which there is a quotient edge
pub record RowsReach (G : Game) (width : ℕ) (words : List ℕ) : Type 0 where
  pub at : (c x : ℕ) → c < classes_in G → x < G.n
      → in_row width words (representative G.n (order G) c) x
      ≡ is_lowest G.n (order G) x & quotient_edge G (order G) (representative G.n (order G) c) x
