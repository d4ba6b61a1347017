-- Governed bisimulation beside the order: document 000, definition 11, in the form of its theorem 4: a direct simulation that is symmetric. Its
-- marks are written by passes like those of the order; a pass unmarks a pair if it or its reverse fails the test.
use Rattle.std.specs.Prelude.{Bool, true, false, ℕ, ◌*◌, ◌<◌}
use Rattle.std.proofs.Math.Bool.{So}
use Rattle.theory.specs.Logic.Bools.{◌&◌}
use Rattle.theory.specs.Order.Passes.{Marks, marked, Rel, rel_of, pair_start, pair_test, pass_count, final_marks}
use Rattle.theory.specs.Games.Game.{even, Game}
use Rattle.theory.specs.Order.Simulation.{DirectSimulation}
use Rattle.theory.specs.Order.Order.{equal_priority, test, order_marks, order, order_passes, Preorder}

-- a direct simulation that holds (w, v) whenever it holds (v, w)
pub record GovernedBisimulation (g : Game) (H : ℕ → ℕ → Type 0) : Type 0 where
  pub simulation : DirectSimulation g g H
  pub symmetric : (v w : ℕ) → v < g.n → w < g.n → H v w → H w v

-- some governed bisimulation holds (v, w)
pub record Bisimilar (g : Game) (v w : ℕ) : Type 1 where
  pub relation : ℕ → ℕ → Type 0
  pub governed : GovernedBisimulation g relation
  pub holds : relation v w

-- ---- its marks, by passes

-- the pair and its reverse pass, both under the marks H before the pass
unfoldable pub governed_test : Game → Rel → Rel
governed_test g H v w = test even g g H v w & test even g g H w v

unfoldable pub governed_marks : Game → Marks
governed_marks g = final_marks (g.n * g.n) (pair_test g.n (governed_test g)) (pair_start g.n (equal_priority g g))

unfoldable pub governed : Game → Rel
governed g = rel_of g.n (marked (governed_marks g))

unfoldable pub governed_passes : Game → ℕ
governed_passes g = pass_count (g.n * g.n) (pair_test g.n (governed_test g)) (pair_start g.n (equal_priority g g))

-- a preorder that is symmetric on the numbers below n
pub record Equivalence (n : ℕ) (le : Rel) : Type 0 where
  pub preorder : Preorder n le
  pub symmetric : (v w : ℕ) → v < n → w < n → So (le v w) → So (le w v)

-- ---- either relation: the order, or, where reverses are asked too, the governed bisimulation

unfoldable pub test_by : Bool → Game → Rel → Rel
test_by false g = test even g g
test_by true g = governed_test g

unfoldable pub marks_by : Bool → Game → Marks
marks_by false g = order_marks g
marks_by true g = governed_marks g

unfoldable pub relation_by : Bool → Game → Rel
relation_by false g = order g
relation_by true g = governed g

unfoldable pub passes_by : Bool → Game → ℕ
passes_by false g = order_passes g
passes_by true g = governed_passes g
