-- A refusal of the reader stands before all other rows, one of the solution's words before those of the certificate; past both, these decide.
use Rattle.std.proofs.lemmas.Result.{err_from_is_err_and}
use Rattle.std.specs.Prelude.{◌≡◌, List, []}
use Rattle.std.proofs.Common.{sym, ◌∙◌}
use Rattle.table.specs.Answers.{Row, Clean, accepted, judge}
use Rattle.table.specs.AnswersLaws.{judge_accepted, judge_past, judge_stays}
use Rattle.large_table.specs.ReadingLaws.{large_sized, large_past, large_stays}
use Rattle.large_moves.specs.Moves.{move_rows}
use Rattle.large_moves.proofs.MovesLaws.{clean_chosen, chosen_lengths}
use Rattle.large_solution.specs.Places.{solution_answer}
use Rattle.large_solution.proofs.check_solution.Goals as goal

-- no row of the solution's words refused
moves_clean : (rows : List Row) → accepted [] ≡ judge rows [] → Clean rows
moves_clean rows h = (judge_accepted rows [] [] (sym h)).0

pub returns-in_err-read : goal.returns-in_err-read
unfolding solution_answer
returns-in_err-read c = let p = err_from_is_err_and c.from_residual.result c.from_residual.ensures.1 in
    rw (p.1, p.2) (sym (large_stays _ c.in_err-read.field-0.0 c.in_err-read.ensures _ _))

pub judge_moves-requires : goal.judge_moves-requires
judge_moves-requires c = (large_sized _ c.in_ok-read.field-0 c.in_ok-read.ensures).formed

pub returns-in_err-judge_moves : goal.returns-in_err-judge_moves
unfolding solution_answer
returns-in_err-judge_moves c =
    let p = err_from_is_err_and c.from_residual-in_err-judge_moves.result c.from_residual-in_err-judge_moves.ensures.1 in
    let f = c.in_err-judge_moves.field-0.0 in
    rw (p.1, p.2)
    (sym (large_past _ c.in_ok-read.field-0 c.in_ok-read.ensures _ _ ∙ judge_stays _ _ [] [] f.number f.place (sym c.in_err-judge_moves.ensures)))

pub judge_places-requires : goal.judge_places-requires
judge_places-requires c =
    chosen_lengths _ _ (large_sized _ c.in_ok-read.field-0 c.in_ok-read.ensures).formed (clean_chosen _ _ (moves_clean _ c.in_ok-judge_moves.ensures))

pub returns : goal.returns
unfolding solution_answer
returns c =
    c.judge_places.ensures
    ∙ sym (large_past _ c.in_ok-read.field-0 c.in_ok-read.ensures _ _
    ∙ judge_past (move_rows c.args.game.now c.args.solution.now) _ [] (moves_clean _ c.in_ok-judge_moves.ensures))
