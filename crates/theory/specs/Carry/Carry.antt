-- The plan carried to another vertex: document 02, CR 4. Its positions are pairs of an old position and a vertex, found from the pair of
-- position 0 and the new vertex.
use Rattle.std.specs.Prelude.{Bool, cond, List, [], ◌∷◌, ◌++◌, map, ℕ, zero, suc, ◌*◌, eqb, ltb, length, get_or, take}
use Rattle.theory.specs.Logic.Bools.{◌&◌, imp}
use Rattle.theory.specs.Logic.Range.{first}
use Rattle.theory.specs.Order.Passes.{Rel}
use Rattle.theory.specs.Games.Game.{Player, Game, own}
use Rattle.theory.specs.Order.Order.{order}
use Rattle.theory.specs.Plans.Plan.{Plan}
use Rattle.theory.specs.Classes.Reduction.{representative, no_better, reduced}
use Rattle.theory.specs.Carry.BreadthFirst.{Found, start_at, search}

-- ---- the old link that is followed

abbrev pub source_of : List (ℕ × ℕ) → ℕ → ℕ
source_of links k = (get_or links k (0, 0)).0

abbrev pub target_of : List (ℕ × ℕ) → ℕ → ℕ
target_of links k = (get_or links k (0, 0)).1

-- the first link of i, in the order of the list
unfoldable pub first_link : List (ℕ × ℕ) → ℕ → ℕ
first_link links i = first (λ k. eqb (source_of links k) i) 0 (length links)

-- Link k may be followed from i. "Old own moves follow the first link in the table": `mine` says that the vertex of i is the player's.
unfoldable pub usable : List (ℕ × ℕ) → Bool → ℕ → ℕ → Bool
usable links mine i k = eqb (source_of links k) i & imp mine (eqb k (first_link links i))

-- the first such link to a position that `keeps`; where there is none, the number of links
unfoldable pub answer : List (ℕ × ℕ) → Bool → (ℕ → Bool) → ℕ → ℕ
answer links mine keeps i = first (λ k. usable links mine i k & keeps (target_of links k)) 0 (length links)

-- ---- a plan on G₁ carried to G₂. K is the needed order: (j, u) keeps it where K relates the vertex of position j to u.

module _ (a : Player) (G₁ G₂ : Game) (K : Rel) (P : Plan) where
  -- the link followed from i where the new vertex is u: the first that keeps
  unfoldable pub answer_to : ℕ → ℕ → ℕ
  answer_to i u = answer P.links (own G₁ a (get_or P.vertices i 0)) (λ j. K (get_or P.vertices j 0) u) i

  -- the moves of (i, u) to the successors of u below b, ascending: to each that some link keeps, by the first such link
  unfoldable pub moves_below : ℕ → ℕ → ℕ → List (ℕ × ℕ)
  moves_below i u zero = []
  moves_below i u (suc b) =
      moves_below i u b ++ cond (G₂.edge u b & ltb (answer_to i b) (length P.links)) ((target_of P.links (answer_to i b), b) ∷ []) []

  -- Where u is the player's "the lowest new vertex is taken, then the first link"; where it is the opponent's every one. (With i at the
  -- player's, u at the opponent's, the first link of i keeps every successor: `kept_all`.)
  unfoldable pub moves_of : ℕ × ℕ → List (ℕ × ℕ)
  moves_of x = cond (own G₂ a x.1) (take 1 (moves_below x.0 x.1 G₂.n)) (moves_below x.0 x.1 G₂.n)

  -- all pairs found from (0, y): at most p × n
  unfoldable pub found_from : ℕ → Found
  found_from y = search moves_of (length P.vertices * G₂.n) 0 (start_at (0, y))

  unfoldable pub carried : ℕ → Plan
  carried y = let s = found_from y in record { vertices = map (λ x. x.1) s.pairs; links = s.links }

-- ---- the two calls

-- "For Even the plan's start must be below the vertex, for Odd the vertex must be below the start"
unfoldable pub carried_plan : Player → Game → Plan → ℕ → Plan
carried_plan a g = carried a g g (no_better a (order g))

-- "a class of the reduced game, which compares as its lowest member"
unfoldable pub class_no_better : Player → Game → Rel
class_no_better a g c v = no_better a (order g) (representative g.n (order g) c) v

unfoldable pub carried_class_plan : Player → Game → Plan → ℕ → Plan
carried_class_plan a g = carried a (reduced g) g (class_no_better a g)
