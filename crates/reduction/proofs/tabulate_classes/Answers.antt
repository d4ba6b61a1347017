-- Each way out is a row of the call's table of refusals, or what the order and the table leave.
use Rattle.std.proofs.lemmas.Result.{err_from_is_err_and}
use mathlib.Core.Path.{◌≡◌}
use mathlib.Core.List.{List, []}
use Prim.Native.Nat.{ℕ}
use native.Mathlib.Omega.{arith}
use lib.ListN.{length}
use Rattle.table.specs.Answers.{judge, accepted}
use Rattle.table.specs.Table.{vertex_count}
use Rattle.table.specs.WellFormed.{WellFormed}
use Rattle.classes.specs.ClassesCall.{memory_rows}
use Rattle.classes.specs.ClassesCallLaws.{memory_fits}
use Rattle.classes.specs.ClassesRules.{ClassesFit}
use Rattle.reduction.proofs.TableCallLaws.{table_short, table_output_short, table_written}
use Rattle.reduction.proofs.tabulate_classes.Goals as goal

-- what the memory's judge said of these buffers
fits : {game marks spare classes : List ℕ} {n : ℕ} → WellFormed game → n ≡ vertex_count game
    → accepted [] ≡ judge (memory_rows n (length marks) (length spare) (length classes)) [] → ClassesFit game marks spare classes
fits well e a = memory_fits _ _ _ _ well (rw e at a)

pub judge_memory-requires : goal.judge_memory-requires
judge_memory-requires c = let p = c.requires in omega (arith, p.vertices, p.well.vertices)

pub returns-in_err-judge_memory : goal.returns-in_err-judge_memory
returns-in_err-judge_memory c = let p = err_from_is_err_and c.from_residual.result c.from_residual.ensures.1 in
    rw (p.1, p.2) (table_short _ _ _ _ _ _ c.requires.well c.in_err-judge_memory.field-0.0 (rw c.requires.vertices at c.in_err-judge_memory.ensures))

pub overflow_mul-needed : goal.overflow_mul-needed
overflow_mul-needed c = let p = c.requires in omega (arith, p.vertices, p.edges, p.well.vertices, p.well.edges)

pub overflow_add-needed : goal.overflow_add-needed
overflow_add-needed c = let p = c.requires in omega (arith, p.vertices, p.edges, p.well.vertices, p.well.edges)

pub overflow_mul-needed-2 : goal.overflow_mul-needed-2
overflow_mul-needed-2 c = let p = c.requires in omega (arith, p.vertices, p.edges, p.well.vertices, p.well.edges)

pub overflow_add-needed-2 : goal.overflow_add-needed-2
overflow_add-needed-2 c = let p = c.requires in omega (arith, p.vertices, p.edges, p.well.vertices, p.well.edges)

pub returns-then-output-needed : goal.returns-then-output-needed
returns-then-output-needed c =
    let p = c.requires in
    let f = fits p.well p.vertices c.in_ok-judge_memory.ensures in
    rw c.refused.ensures (table_output_short _ _ _ _ _ _ f _ (omega (arith, p.vertices, p.edges)) c.if-output-needed.true)

pub fill_memory-filled-requires : goal.fill_memory-filled-requires
fill_memory-filled-requires c =
    let p = c.requires in
    let f = fits p.well p.vertices c.in_ok-judge_memory.ensures in
    record { classes_fit = f; output_fit = omega (arith, p.vertices, p.edges, c.if-output-needed.false) }

pub returns : goal.returns
returns c =
    let p = c.requires in
    let f = fits p.well p.vertices c.in_ok-judge_memory.ensures in
    table_written _ _ _ _ _ _ (record { classes_fit = f; output_fit = omega (arith, p.vertices, p.edges, c.if-output-needed.false) }) _ _ _ _ _ _ c.fill_memory-filled.ensures
