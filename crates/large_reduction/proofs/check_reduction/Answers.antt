-- A refusal of the reader stands before every row of the reduction, and past an accepted table these rows decide.
use Rattle.std.proofs.lemmas.Result.{err_from_is_err_and}
use Rattle.std.proofs.Common.{sym, ◌∙◌}
use Rattle.large_table.specs.ReadingLaws.{large_sized, large_past, large_stays}
use Rattle.large_reduction.specs.ReductionCall.{reduction_answer}
use Rattle.large_reduction.proofs.check_reduction.Goals as goal

pub judge_reduced-requires : goal.judge_reduced-requires
judge_reduced-requires c = (large_sized _ c.in_ok-read.field-0 c.in_ok-read.ensures).formed

pub returns-in_err-read : goal.returns-in_err-read
unfolding reduction_answer
returns-in_err-read c = let p = err_from_is_err_and c.from_residual.result c.from_residual.ensures.1 in
    rw (p.1, p.2) (sym (large_stays _ c.in_err-read.field-0.0 c.in_err-read.ensures _ _))

pub returns : goal.returns
unfolding reduction_answer
returns c = c.judge_reduced.ensures ∙ sym (large_past _ c.in_ok-read.field-0 c.in_ok-read.ensures _ _)
