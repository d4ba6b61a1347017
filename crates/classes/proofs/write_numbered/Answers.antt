-- Each way out is a row of the call's table of refusals, or what the relation and its classes leave.
use Rattle.std.proofs.lemmas.Result.{err_from_is_err_and}
use native.Mathlib.Omega.{arith}
use Rattle.classes.specs.ClassesCallLaws.{memory_fits, classes_short, classes_done}
use Rattle.classes.proofs.write_numbered.Goals as goal

pub judge_memory-requires : goal.judge_memory-requires
judge_memory-requires c = let p = c.requires in omega (arith, p.1, p.0.vertices)

pub returns-in_err-judge_memory : goal.returns-in_err-judge_memory
returns-in_err-judge_memory c = let p = err_from_is_err_and c.from_residual.result c.from_residual.ensures.1 in
    rw (p.1, p.2) (classes_short _ _ _ _ c.requires.0 c.in_err-judge_memory.field-0.0 (rw c.requires.1 at c.in_err-judge_memory.ensures))

pub fill_numbered-k-requires : goal.fill_numbered-k-requires
fill_numbered-k-requires c = (memory_fits _ _ _ _ c.requires.0 (rw c.requires.1 at c.in_ok-judge_memory.ensures), c.requires.1)

pub returns : goal.returns
returns c = classes_done _ _ _ _ (memory_fits _ _ _ _ c.requires.0 (rw c.requires.1 at c.in_ok-judge_memory.ensures)) _ _ _ _ c.fill_numbered-k.ensures
