-- Invariant: the first v vertices are drawn.
use Rattle.std.proofs.Common.{◌∙◌, zero-mul, arith, length-set}
use Rattle.table_seed.specs.ProgressLaws.{underway_start, progress_end, room_kept}
use Rattle.table_seed.proofs.writing.write_table.Goals as goal

pub bounds-output-1 : goal.bounds-output-1
bounds-output-1 c = simp length-set (omega arith)

pub loop-v-init : goal.loop-v-init
loop-v-init c = λ old u. simp zero-mul u

pub write_vertex-generator-requires : goal.write_vertex-generator-requires
write_vertex-generator-requires c = let p = c.requires in
    (room_kept p.0 (c.loop-v.auto.output ∙ simp length-set), p.1, c.loop-v-test.true)

pub loop-v-preserved : goal.loop-v-preserved
loop-v-preserved c = λ old u. c.write_vertex-generator.ensures _ old (c.loop-v.invariant old u)

pub shape_of-output : goal.shape_of-output
shape_of-output c = c.loop-v.auto.output ∙ simp length-set

pub returns : goal.returns
returns c = let a = c.args in
    let fits = c.requires.0.fits in
    let u = c.loop-v.invariant a.output.now (underway_start _ _ _ _ _ fits) in
    progress_end _ _ _ _ _ fits _ (omega arith) _ u.words
