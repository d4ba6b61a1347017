-- The governed acceptor's table of refusals in terms of logic, and what it passes. (The rows of the other two calls are the order's, `order_rules` and
-- `class_rules`.)
use Rattle.std.specs.Prelude.{List, ℕ, ◌≤◌, length}
use Rattle.theory.specs.Order.Governed.{GovernedBisimulation}
use Rattle.table.specs.Table.{vertex_count, pair_count, game_of}
use Rattle.table.specs.Rules.{Rule}
use Rattle.table.specs.WellFormed.{WellFormed}
use Rattle.marks.specs.Marks.{marks_length, Marked, Clear}
use Rattle.order_acceptor.specs.RelationRules.{Direct, acceptor_rules}

-- equal priorities, the test, and a marked reverse
pub record Governed (g marks : List ℕ) (v w : ℕ) : Type 0 where
  pub direct : Direct g marks v w
  pub reverse : Marked (vertex_count g) marks w v

-- 1 to 8, 21, 41, 10
abbrev pub governed_rules : List ℕ → List ℕ → List Rule
governed_rules g marks = acceptor_rules (Governed g marks) g marks

-- a well-formed table, with marks and no set unused bit, where the marked pairs form a governed bisimulation
pub record GovernedPasses (g marks : List ℕ) : Type 0 where
  pub game : WellFormed g
  pub fits : marks_length (vertex_count g) ≤ length marks
  pub clear : Clear marks (pair_count g)
  pub governed : GovernedBisimulation (game_of g) (Marked (vertex_count g) marks)
