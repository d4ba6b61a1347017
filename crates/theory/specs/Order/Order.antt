-- The order, computed by passes. The test is that of `Moves`, with bounded "each" and "some" in place of quantifiers.
use Rattle.std.specs.Prelude.{Bool, true, false, ℕ, ◌*◌, ◌<◌, eqb}
use Rattle.std.proofs.Math.Bool.{So}
use Rattle.theory.specs.Logic.Bools.{◌&◌, imp}
use Rattle.theory.specs.Logic.Range.{all_below, any_below}
use Rattle.theory.specs.Order.Passes.{Marks, marked, Rel, rel_of, pair_start, pair_test, pass_count, final_marks}
use Rattle.theory.specs.Games.Game.{Player, even, Game, own}

-- each, some successor of v passes
unfoldable pub all_next : Game → ℕ → (ℕ → Bool) → Bool
all_next g v p = all_below g.n (λ x. imp (g.edge v x) (p x))

unfoldable pub any_next : Game → ℕ → (ℕ → Bool) → Bool
any_next g v p = any_below g.n (λ x. g.edge v x & p x)

-- document 01's four rows: is v the player's, is w the player's
unfoldable pub moves : Bool → Bool → Game → Game → Rel → Rel
moves true true g h H v w = all_next g v (λ v'. any_next h w (λ w'. H v' w'))
moves true false g h H v w = all_next g v (λ v'. all_next h w (λ w'. H v' w'))
moves false true g h H v w = any_next g v (λ v'. any_next h w (λ w'. H v' w'))
moves false false g h H v w = all_next h w (λ w'. any_next g v (λ v'. H v' w'))

unfoldable pub equal_priority : Game → Game → Rel
equal_priority g h v w = eqb (g.priority v) (h.priority w)

unfoldable pub test : Player → Game → Game → Rel → Rel
test a g h H v w = moves (own g a v) (own h a w) g h H v w

-- ---- between two games, for a player

unfoldable pub marks_between : Player → Game → Game → Marks
marks_between a g h = final_marks (g.n * h.n) (pair_test h.n (test a g h)) (pair_start h.n (equal_priority g h))

unfoldable pub below : Player → Game → Game → Rel
below a g h = rel_of h.n (marked (marks_between a g h))

-- ---- document 01's order of one game

unfoldable pub order_marks : Game → Marks
order_marks g = marks_between even g g

-- v is below w
unfoldable pub order : Game → Rel
order g = rel_of g.n (marked (order_marks g))

unfoldable pub order_passes : Game → ℕ
order_passes g = pass_count (g.n * g.n) (pair_test g.n (test even g g)) (pair_start g.n (equal_priority g g))

-- ---- in terms of logic

-- a relation of Bools as one of types
abbrev pub Holds : Rel → ℕ → ℕ → Type 0
Holds H v w = So (H v w)

-- le is reflexive and transitive on the numbers below n
pub record Preorder (n : ℕ) (le : Rel) : Type 0 where
  pub reflexive : (v : ℕ) → v < n → So (le v v)
  pub transitive : (v u w : ℕ) → v < n → u < n → w < n → So (le v u) → So (le u w) → So (le v w)
