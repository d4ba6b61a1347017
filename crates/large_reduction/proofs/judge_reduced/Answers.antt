-- A refusal of the reduced game stands before the rows that follow, with 90 added to its number.
use Rattle.std.proofs.Common.{sym, ◌∙◌, arith}
use Rattle.large_table.specs.ReadingLaws.{large_sized}
use Rattle.large_reduction.proofs.ReductionCallLaws.{shifted_past, shifted_refused, refusal_number}
use Rattle.large_reduction.proofs.judge_reduced.Goals as goal

pub overflow_add-refusal : goal.overflow_add-refusal
overflow_add-refusal c = omega (arith, refusal_number _ c.in-Err.refusal (rw c.in-Err.is at c.read.ensures))

pub judge_classes-requires : goal.judge_classes-requires
judge_classes-requires c = (c.requires, (large_sized _ c.in-Ok.field-0 (rw c.in-Ok.is at c.read.ensures)).formed)

pub returns-in-Err : goal.returns-in-Err
returns-in-Err c = rw c.refused.ensures (sym (shifted_refused _ c.in-Err.refusal (rw c.in-Err.is at c.read.ensures) _))

pub returns-in-Ok : goal.returns-in-Ok
returns-in-Ok c = c.judge_classes.ensures ∙ sym (shifted_past _ c.in-Ok.field-0 (rw c.in-Ok.is at c.read.ensures) _)
