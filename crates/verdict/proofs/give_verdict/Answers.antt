-- The reader's refusal, or 33; then the reduction's, or what 11 to 16 say of the table that it wrote.
use Rattle.std.proofs.lemmas.Result.{err_from_is_err_and}
use Rattle.std.specs.Prelude.{◌≡◌, List, ℕ, true}
use Rattle.std.proofs.Common.{sym, ap, arith}
use lib.Seq.{length-take-le}
use Rattle.theory.specs.Classes.Reduction.{reduced}
use Rattle.table.specs.Answers.{Answer}
use Rattle.table.specs.ReadingLaws.{well_clean}
use Rattle.reduction_edges.specs.Rows.{game_by}
use Rattle.reduction.specs.TableCall.{tabulation_answer, TableCall}
use Rattle.verdict.proofs.VerdictCallLaws.{read_sized, written_well, reduced_small, reduced_long, classes_long, verdict_handed, verdict_beyond, verdict_short, verdict_judged}
use Rattle.verdict.proofs.give_verdict.Goals as goal

-- what the reduction leaves
table : {game marks spare classes output : List ℕ} {answer : Answer} {marks' spare' classes' output' : List ℕ}
    → TableCall (game_by true) game marks spare classes output answer marks' spare' classes' output'
    → TableCall reduced game marks spare classes output answer marks' spare' classes' output'
unfolding game_by
table call = call

pub returns-in_default : goal.returns-in_default
returns-in_default c = verdict_handed _ _ _ _ _ _ _ _ _ _ _ c.in_default.is c.read_sizes-reading.ensures c.refusal_of.ensures

pub returns-then-sizes-v : goal.returns-then-sizes-v
returns-then-sizes-v c =
    let s = read_sized c.in-Ok.is c.read_sizes-reading.ensures in
    rw c.refused.ensures (verdict_beyond _ _ _ _ _ _ _ _ (well_clean _ s.well) (omega (arith, c.if-sizes-v.true, s.vertices)))

pub tabulate_classes-requires : goal.tabulate_classes-requires
tabulate_classes-requires c = read_sized c.in-Ok.is c.read_sizes-reading.ensures

pub overflow_mul-size : goal.overflow_mul-size
overflow_mul-size c = omega (arith, reduced_small (table c.tabulate_classes.ensures) _ _ _ (ap tabulation_answer c.in_ok-counts.was))

pub overflow_add-size : goal.overflow_add-size
overflow_add-size c = omega (arith, reduced_small (table c.tabulate_classes.ensures) _ _ _ (ap tabulation_answer c.in_ok-counts.was))

pub overflow_mul-size-2 : goal.overflow_mul-size-2
overflow_mul-size-2 c = omega (arith, reduced_small (table c.tabulate_classes.ensures) _ _ _ (ap tabulation_answer c.in_ok-counts.was))

pub overflow_add-size-2 : goal.overflow_add-size-2
overflow_add-size-2 c = omega (arith, reduced_small (table c.tabulate_classes.ensures) _ _ _ (ap tabulation_answer c.in_ok-counts.was))

pub slice_bounds-judge_reduced-end : goal.slice_bounds-judge_reduced-end
slice_bounds-judge_reduced-end c = reduced_long (table c.tabulate_classes.ensures) _ _ _ (ap tabulation_answer c.in_ok-counts.was)

pub slice_bounds-judge_reduced-end-2 : goal.slice_bounds-judge_reduced-end-2
slice_bounds-judge_reduced-end-2 c =
    sym (length-take-le _ _ (reduced_long (table c.tabulate_classes.ensures) _ _ _ (ap tabulation_answer c.in_ok-counts.was)))

pub bounds-classes-v : goal.bounds-classes-v
bounds-classes-v c =
    let s = read_sized c.in-Ok.is c.read_sizes-reading.ensures in
    omega (arith, c.if-sizes-v.false, s.vertices, classes_long (table c.tabulate_classes.ensures) _ _ _ (ap tabulation_answer c.in_ok-counts.was))

pub judge_reduced-requires : goal.judge_reduced-requires
judge_reduced-requires c = written_well (table c.tabulate_classes.ensures) _ _ _ (ap tabulation_answer c.in_ok-counts.was)

pub returns : goal.returns
returns c =
    let s = read_sized c.in-Ok.is c.read_sizes-reading.ensures in
    verdict_judged _ _ _ _ _ _ _ _ (well_clean _ s.well) (omega (arith, c.if-sizes-v.false, s.vertices)) (table c.tabulate_classes.ensures) _
    (ap tabulation_answer c.in_ok-counts.was) _ c.judge_reduced.ensures

pub returns-in_err-counts : goal.returns-in_err-counts
returns-in_err-counts c =
    let s = read_sized c.in-Ok.is c.read_sizes-reading.ensures in
    let p = err_from_is_err_and c.from_residual.result c.from_residual.ensures.1 in
    rw (p.1, p.2)
    (verdict_short _ _ _ _ _ _ _ _ (well_clean _ s.well) (omega (arith, c.if-sizes-v.false, s.vertices)) (table c.tabulate_classes.ensures) _ _
    (ap tabulation_answer c.in_err-counts.was))
