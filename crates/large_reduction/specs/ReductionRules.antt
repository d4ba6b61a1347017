-- The table of refusals of a reduction in terms of logic: each row with its number, its condition and its place, and what passes it.
use Rattle.std.specs.Prelude.{◌≡◌, ◌≢◌, List, [], ◌∷◌, ◌++◌, ℕ, ◌+◌, ◌-◌, ◌≤◌, ◌<◌, length}
use Rattle.table.specs.Table.{vertex_count, table_edges, priority_at, source_at}
use Rattle.table.specs.Rules.{Rule, placed, first_such}
use Rattle.large_table.specs.Reading.{LargeFormed}
use Rattle.large_table.specs.LargeRules.{large_rules}
use Rattle.large_images.specs.Images.{class_at}
use Rattle.large_images.specs.ImagesRules.{image_rules, Certified}

-- the reader's rules, for the reduced game
abbrev pub shifted_rules : List Rule → List Rule
shifted_rules [] = []
shifted_rules (q ∷ qs) = record { number = q.number + 90; Holds = q.Holds; At = q.At } ∷ shifted_rules qs

-- edge e has a lower source than the edge before it
pub record Descends (r : List ℕ) (e : ℕ) : Type 0 where
  pub before : 0 < e
  pub lower : source_at r e < source_at r (e - 1)

-- 97 to 100; places are an edge of the reduced game, the length, a vertex, a vertex
abbrev pub class_rules : List ℕ → List ℕ → List ℕ → List Rule
class_rules g r l =
    let n = vertex_count g in
    first_such 97 (Descends r) 0 (table_edges r) (λ e. e)
    ∷ placed 98 (length l ≢ n) (length l)
    ∷ first_such 99 (λ v. vertex_count r ≤ class_at l v) 0 n (λ v. v)
    ∷ first_such 100 (λ v. priority_at g v ≢ priority_at r (class_at l v)) 0 n (λ v. v)
    ∷ []

-- 1, 2, 4, 5, 6 of the game, 91, 92, 94, 95, 96 of the reduced game, 97 to 106
abbrev pub reduction_rules : List ℕ → List ℕ → List ℕ → List ℕ → List Rule
reduction_rules g r l c = large_rules g ++ (shifted_rules (large_rules r) ++ (class_rules g r l ++ image_rules g r l c))

-- ---- what none of them refuses

-- edges by ascending source
abbrev pub Ascending : List ℕ → Type 0
Ascending r = (e : ℕ) → e + 1 < table_edges r → source_at r e ≤ source_at r (e + 1)

-- a class for each vertex, of the same priority
pub record Classed (g r l : List ℕ) : Type 0 where
  pub words : length l ≡ vertex_count g
  pub inside : (v : ℕ) → v < vertex_count g → class_at l v < vertex_count r
  pub priority : (v : ℕ) → v < vertex_count g → priority_at g v ≡ priority_at r (class_at l v)

pub record ReductionPasses (g r l c : List ℕ) : Type 0 where
  pub game : LargeFormed g
  pub reduced : LargeFormed r
  pub ascending : Ascending r
  pub classed : Classed g r l
  pub certified : Certified g r l c
