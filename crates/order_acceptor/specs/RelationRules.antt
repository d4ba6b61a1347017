-- The relation acceptor's table of refusals in terms of logic, and what it passes.
use Rattle.std.proofs.Math.Bool.{So}
use Rattle.std.specs.Prelude.{List, [], ◌∷◌, ◌++◌, ℕ, ◌-◌, ◌*◌, ◌/◌, ◌%◌, ◌≤◌, ◌<◌, length}
use Rattle.theory.specs.Games.Game.{even}
use Rattle.theory.specs.Order.Simulation.{PassesTest, DirectSimulation}
use Rattle.table.specs.Table.{vertex_count, pair_count, game_of}
use Rattle.table.specs.Rules.{Rule, Some, placed, memory_rule, first_such}
use Rattle.table.specs.ReadingRules.{game_rules}
use Rattle.table.specs.WellFormed.{WellFormed}
use Rattle.marks.specs.Marks.{marks_length, is_mark, Marked, Clear}

-- it is marked, and what is asked of it fails
pub record Fails (Asked : ℕ → ℕ → Type 0) (g marks : List ℕ) (v w : ℕ) : Type 0 where
  pub marked : Marked (vertex_count g) marks v w
  pub failing : ¬ Asked v w

-- 1 to 8, 21, 41, 10; 41 stands for a set unused bit and names the last byte; pair (v, w) is number v × n + w
abbrev pub acceptor_rules : (ℕ → ℕ → Type 0) → List ℕ → List ℕ → List Rule
acceptor_rules Asked g marks =
    let n = vertex_count g in
    game_rules g
    ++ (
    memory_rule 21 (marks_length n) marks
    ∷ placed 41 (Some (λ i. So (is_mark marks i)) (n * n) (marks_length n * 8)) (marks_length n - 1)
    ∷ first_such 10 (λ i. Fails Asked g marks (i / n) (i % n)) 0 (n * n) (λ i. i)
    ∷ []
    )

-- a well-formed table, with marks and no set unused bit, where each marked pair passes what is asked
pub record AcceptorPasses (Asked : ℕ → ℕ → Type 0) (g marks : List ℕ) : Type 0 where
  pub game : WellFormed g
  pub fits : marks_length (vertex_count g) ≤ length marks
  pub clear : Clear marks (pair_count g)
  pub each : (v w : ℕ) → v < vertex_count g → w < vertex_count g → Marked (vertex_count g) marks v w → Asked v w

-- ---- direct simulations

-- equal priorities and the test
abbrev pub Direct : List ℕ → List ℕ → ℕ → ℕ → Type 0
Direct g marks = PassesTest even (game_of g) (game_of g) (Marked (vertex_count g) marks)

abbrev pub relation_rules : List ℕ → List ℕ → List Rule
relation_rules g marks = acceptor_rules (Direct g marks) g marks

-- a well-formed table, with marks and no set unused bit, where the marked pairs form a direct simulation
pub record RelationPasses (g marks : List ℕ) : Type 0 where
  pub game : WellFormed g
  pub fits : marks_length (vertex_count g) ≤ length marks
  pub clear : Clear marks (pair_count g)
  pub simulation : DirectSimulation (game_of g) (game_of g) (Marked (vertex_count g) marks)
