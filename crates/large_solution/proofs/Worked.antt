-- A game that a reader can follow. Vertex 0 is Even's, of priority 0; vertex 1 is Odd's and vertex 2 Even's, both of priority 1. Edges: 0 to 1,
-- 0 to 2, 1 to 0, 2 to 2. Even wins at 0 and 1 by moving from 0 to 1; at 2 Odd wins.
use Rattle.std.specs.Prelude.{◌≡◌, refl, List, [], ◌∷◌, ℕ}
use Rattle.std.proofs.Common.{arith}
use Rattle.theory.specs.Games.Game.{odd}
use Rattle.theory.proofs.Winners.DeterminacyLaws.{winner}
use Rattle.theory.proofs.Examples.Compute.{compute}
use Rattle.table.specs.Table.{player_of, game_of}
use Rattle.table.specs.Answers.{accepted, refused, judge}
use Rattle.table.specs.Reading.{first_owner, first_end}
use Rattle.large_table.specs.Reading.{large_rows}
use Rattle.large_moves.specs.Moves.{move_strays, keeps_edge, edge_leaves, first_winner, first_stray, first_leaving, move_rows}
use Rattle.large_solution.specs.Places.{is_misplaced, is_over, place_over, run_stop, run_fails, climbs_by, edge_climbs, first_beyond, first_misplaced, first_bad_run, first_climb, place_rows, solution_answer}
use Rattle.large_solution.proofs.SolutionLaws.{solution_winner}

-- one name for what the call computes
unfoldable computed : Unit {0}
unfolding compute judge first_owner first_end large_rows move_strays keeps_edge edge_leaves first_winner first_stray first_leaving move_rows is_misplaced is_over place_over run_stop run_fails climbs_by edge_climbs first_beyond first_misplaced first_bad_run first_climb place_rows solution_answer
computed = tt

abbrev pub game : List ℕ
game = 3 ∷ 4 ∷ 0 ∷ 1 ∷ 1 ∷ 0 ∷ 1 ∷ 0 ∷ 0 ∷ 0 ∷ 1 ∷ 2 ∷ 1 ∷ 2 ∷ 0 ∷ 2 ∷ []

-- the winners, and the moves by edges 0, 2 and 3
abbrev pub solution : List ℕ
solution = 0 ∷ 0 ∷ 1 ∷ 0 ∷ 2 ∷ 3 ∷ []

-- Each vertex stands at its own number. The run of place 0 is all places; place 2 isn't over place 1, since priority 1 isn't Even's.
abbrev pub certificate : List ℕ
certificate = 0 ∷ 1 ∷ 2 ∷ 0 ∷ 1 ∷ 2 ∷ 2 ∷ 1 ∷ 2 ∷ []

pub order_accepted : solution_answer game solution certificate ≡ accepted []
unfolding computed
order_accepted = refl

pub odd_wins : winner (game_of game) 2 ≡ odd
unfolding player_of compute
odd_wins = solution_winner game solution certificate [] order_accepted 2 (omega arith)

-- 84: Even moves from 0 to 2 by edge 1, where Odd is named
pub move_refused : solution_answer game (0 ∷ 0 ∷ 1 ∷ 1 ∷ 2 ∷ 3 ∷ []) certificate ≡ refused 84 1
unfolding computed
move_refused = refl

-- 88: a run of place 1 that has place 2 in it, and a run of place 0 that could be longer
pub long_refused : solution_answer game solution (0 ∷ 1 ∷ 2 ∷ 0 ∷ 1 ∷ 2 ∷ 2 ∷ 2 ∷ 2 ∷ []) ≡ refused 88 1
unfolding computed
long_refused = refl

pub short_refused : solution_answer game solution (0 ∷ 1 ∷ 2 ∷ 0 ∷ 1 ∷ 2 ∷ 1 ∷ 1 ∷ 2 ∷ []) ≡ refused 88 0
unfolding computed
short_refused = refl

-- 89: the same solution, which is right, with vertex 1 before vertex 0: edge 2 goes up from 1 over a lower priority
pub order_refused : solution_answer game solution (1 ∷ 0 ∷ 2 ∷ 1 ∷ 0 ∷ 2 ∷ 0 ∷ 2 ∷ 2 ∷ []) ≡ refused 89 2
unfolding computed
order_refused = refl
