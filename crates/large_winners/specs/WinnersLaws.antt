-- A reduction and a solution of the reduced game, both accepted: the winner named at a vertex's class is the winner at the vertex, in the game
-- that was reduced. So too after two reductions in a row.
use Rattle.std.specs.Prelude.{◌≡◌, List, ℕ, ◌<◌}
use Rattle.std.proofs.Common.{◌∙◌}
use Rattle.theory.specs.Games.Game.{other}
use Rattle.theory.specs.Plans.Plan.{Won, WonSmall}
use Rattle.theory.proofs.Winners.DeterminacyLaws.{winner, won_small}
use Rattle.table.specs.Table.{vertex_count, game_of}
use Rattle.table.specs.Answers.{accepted}
use Rattle.large_moves.specs.Chosen.{winner_of}
use Rattle.large_solution.specs.Places.{solution_answer}
use Rattle.large_solution.proofs.SolutionLaws.{solution_won, solution_lost, solution_winner}
use Rattle.large_images.specs.Images.{class_at}
use Rattle.large_reduction.specs.ReductionCall.{reduction_answer}
use Rattle.large_reduction.proofs.ReductionLaws.{reduction_merged, reduction_total, reduction_won, reduction_winner}

module _ (g r l c counts : List ℕ) (reduction : reduction_answer g r l c ≡ accepted counts) where
  class_lt : (v : ℕ) → v < vertex_count g → class_at l v < vertex_count r
  unfolding game_of
  class_lt = (reduction_merged g r l c counts reduction).inside

  module _ (s o counts' : List ℕ) (solution : solution_answer r s o ≡ accepted counts') (v : ℕ) (h : v < vertex_count g) where
    -- the winner named at the class has a winning plan from the vertex, no larger than the game
    pub class_won : WonSmall (winner_of s (class_at l v)) (game_of g) v
    unfolding game_of
    class_won =
        let w = solution_won r s o counts' solution (class_at l v) (class_lt v h) in
        won_small (game_of g) (reduction_total g r l c counts reduction) v h _ ((reduction_won g r l c counts reduction _ v h).1 (w.plan, w.wins))

    -- and the other player has none
    pub class_lost : Won (other (winner_of s (class_at l v))) (game_of g) v → ⊥
    class_lost p = solution_lost r s o counts' solution (class_at l v) (class_lt v h) ((reduction_won g r l c counts reduction _ v h).0 p)

    pub class_winner : winner (game_of g) v ≡ winner_of s (class_at l v)
    class_winner = reduction_winner g r l c counts reduction v h ∙ solution_winner r s o counts' solution (class_at l v) (class_lt v h)

-- two reductions in a row, and a solution of the second reduced game
pub chain_class_winner : (g r l c counts : List ℕ) → reduction_answer g r l c ≡ accepted counts
    → (r' l' c' counts' : List ℕ) → reduction_answer r r' l' c' ≡ accepted counts'
    → (s o counts'' : List ℕ) → solution_answer r' s o ≡ accepted counts''
    → (v : ℕ) → v < vertex_count g → winner (game_of g) v ≡ winner_of s (class_at l' (class_at l v))
chain_class_winner g r l c counts a r' l' c' counts' b s o counts'' solution v h =
    reduction_winner g r l c counts a v h ∙ class_winner r r' l' c' counts' b s o counts'' solution (class_at l v) (class_lt g r l c counts a v h)
