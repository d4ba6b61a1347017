-- The game `six` of large_reduction, reduced to `four`, and a solution of that: Even wins at the classes 0, 1 and 3, Odd at 2. So Even wins at 1
-- and 5 of the six, and Odd at 3.
use Rattle.std.specs.Prelude.{◌≡◌, refl, List, [], ◌∷◌, ℕ}
use Rattle.std.proofs.Common.{arith}
use Rattle.theory.specs.Games.Game.{even, odd}
use Rattle.theory.proofs.Winners.DeterminacyLaws.{winner}
use Rattle.theory.proofs.Examples.Compute.{compute}
use Rattle.table.specs.Table.{player_of, game_of}
use Rattle.table.specs.Answers.{judge, accepted}
use Rattle.table.specs.Reading.{first_owner, first_end}
use Rattle.large_table.specs.Reading.{large_rows}
use Rattle.large_moves.specs.Moves.{move_strays, keeps_edge, edge_leaves, first_winner, first_stray, first_leaving, move_rows}
use Rattle.large_solution.specs.Places.{is_misplaced, is_over, place_over, run_stop, run_fails, climbs_by, edge_climbs, first_beyond, first_misplaced, first_bad_run, first_climb, place_rows, solution_answer}
use Rattle.large_reduction.proofs.Worked.{six, four, classes, certificate, six_accepted}
use Rattle.large_winners.specs.WinnersLaws.{class_winner}

-- the winners, and the moves by edges 0, 2, 3 and 4
abbrev pub solution : List ℕ
solution = 0 ∷ 0 ∷ 1 ∷ 0 ∷ 0 ∷ 2 ∷ 3 ∷ 4 ∷ []

-- places of 0, 1, 2 and 3; the vertices 1, 0, 3 and 2 by place; the last places of their runs
abbrev pub places : List ℕ
places = 1 ∷ 0 ∷ 3 ∷ 2 ∷ 1 ∷ 0 ∷ 3 ∷ 2 ∷ 3 ∷ 2 ∷ 2 ∷ 3 ∷ []

pub four_solved : solution_answer four solution places ≡ accepted []
unfolding compute judge first_owner first_end large_rows move_strays keeps_edge edge_leaves first_winner first_stray first_leaving move_rows is_misplaced is_over place_over run_stop run_fails climbs_by edge_climbs first_beyond first_misplaced first_bad_run first_climb place_rows solution_answer four
four_solved = refl

pub even_at_1 : winner (game_of six) 1 ≡ even
unfolding compute player_of six four classes
even_at_1 = class_winner six four classes certificate [] six_accepted solution places [] four_solved 1 (omega arith)

pub odd_at_3 : winner (game_of six) 3 ≡ odd
unfolding compute player_of six four classes
odd_at_3 = class_winner six four classes certificate [] six_accepted solution places [] four_solved 3 (omega arith)

-- merged with 4, which is Even's
pub even_at_5 : winner (game_of six) 5 ≡ even
unfolding compute player_of six four classes
even_at_5 = class_winner six four classes certificate [] six_accepted solution places [] four_solved 5 (omega arith)
