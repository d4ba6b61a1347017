-- Class numbers so far, over any relation on n vertices, and marks that hold a relation: what the parts of the calls assume and promise of
-- each other. No public promise cites these.
use Rattle.std.specs.Prelude.{◌≡◌, List, ℕ, ◌≤◌, ◌<◌, length, get_or}
use Rattle.theory.specs.Logic.Range.{count}
use Rattle.theory.specs.Order.Passes.{Rel}
use Rattle.theory.specs.Games.Game.{Game}
use Rattle.theory.specs.Order.Order.{order, Preorder}
use Rattle.theory.specs.Classes.Reduction.{is_lowest, class_count, class_number, representative}
use Rattle.table.specs.Limits.{vertex_limit}
use Rattle.marks.specs.Marks.{marks_length, relation}

-- ---- over any relation

-- the vertices below v have their class numbers, and the k classes among them their lowest members
pub record Numbered (n : ℕ) (le : Rel) (v k : ℕ) (classes reps : List ℕ) : Type 0 where
  pub total : k ≡ count v (is_lowest n le)
  pub numbers : (u : ℕ) → u < v → get_or classes u 0 ≡ class_number n le u
  pub lowest : (c : ℕ) → c < k → get_or reps c 0 ≡ representative n le c

-- every vertex has its class number
pub record Classed (n : ℕ) (le : Rel) (classes : List ℕ) : Type 0 where
  pub long : n ≤ length classes
  pub numbers : (u : ℕ) → u < n → get_or classes u 0 ≡ class_number n le u

-- every class has its representative
pub record Represented (n : ℕ) (le : Rel) (reps : List ℕ) : Type 0 where
  pub long : class_count n le ≤ length reps
  pub lowest : (c : ℕ) → c < class_count n le → get_or reps c 0 ≡ representative n le c

-- ---- marks

-- the marks of n vertices are a preorder
pub record PreorderMarks (n : ℕ) (marks : List ℕ) : Type 0 where
  pub few : n ≤ vertex_limit
  pub long : marks_length n ≤ length marks
  pub preorder : Preorder n (relation n marks)

-- the marks are the relation le
pub record Holding (n : ℕ) (le : Rel) (marks : List ℕ) : Type 0 where
  pub long : marks_length n ≤ length marks
  pub marked : (v w : ℕ) → v < n → w < n → relation n marks v w ≡ le v w

-- ---- a game's order

-- the marks are the order
abbrev pub Ordered : Game → List ℕ → Type 0
Ordered G = Holding G.n (order G)

-- how many classes there are
abbrev pub classes_in : Game → ℕ
classes_in G = class_count G.n (order G)
