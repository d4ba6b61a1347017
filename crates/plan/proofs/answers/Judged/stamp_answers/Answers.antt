-- The targets of the group before t have their vertices stamped.
use native.Mathlib.Omega.{arith}
use Rattle.index.specs.IndexLaws.{indexed_size}
use Rattle.plan_links.specs.LinkIndexLaws.{run_target, run_end}
use Rattle.plan.specs.StampsLaws.{stamped_none, stamped_more, stamped_all}
use Rattle.plan.proofs.answers.Judged.stamp_answers.Goals as goal

pub run_of-run-requires : goal.run_of-run-requires
run_of-run-requires c = omega (arith, indexed_size c.requires.indexed, c.requires.plan_formed.1)

pub loop-t-init : goal.loop-t-init
loop-t-init c = rw c.run_of-run.ensures (stamped_none _ _ _ _ _)

pub offset_bounds-self-t : goal.offset_bounds-self-t
offset_bounds-self-t c = omega (arith, (run_target c.requires.indexed c.requires.plan_formed.1 c.run_of-run.ensures c.loop-t.auto.t c.loop-t-test.true).inside)

pub bounds-self-t : goal.bounds-self-t
bounds-self-t c = (run_target c.requires.indexed c.requires.plan_formed.1 c.run_of-run.ensures c.loop-t.auto.t c.loop-t-test.true).inside

pub vertex_of-x-requires : goal.vertex_of-x-requires
vertex_of-x-requires c =
    let t = run_target c.requires.indexed c.requires.plan_formed.1 c.run_of-run.ensures c.loop-t.auto.t c.loop-t-test.true in
    (c.requires.plan_formed.0.sized, rw c.from.ensures t.below)

pub offset_bounds-stamps-x : goal.offset_bounds-stamps-x
offset_bounds-stamps-x c =
    let t = run_target c.requires.indexed c.requires.plan_formed.1 c.run_of-run.ensures c.loop-t.auto.t c.loop-t-test.true in
    omega (arith, c.loop-t.auto.stamps, rw c.from.ensures at c.vertex_of-x.ensures, c.requires.plan_formed.0.vertices _ t.below)

pub bounds-stamps-x : goal.bounds-stamps-x
bounds-stamps-x c =
    let t = run_target c.requires.indexed c.requires.plan_formed.1 c.run_of-run.ensures c.loop-t.auto.t c.loop-t-test.true in
    omega (arith, c.loop-t.auto.stamps, rw c.from.ensures at c.vertex_of-x.ensures, c.requires.plan_formed.0.vertices _ t.below)

pub loop-t-preserved : goal.loop-t-preserved
loop-t-preserved c =
    let x = rw c.from.ensures at c.vertex_of-x.ensures in
    let t = run_target c.requires.indexed c.requires.plan_formed.1 c.run_of-run.ensures c.loop-t.auto.t c.loop-t-test.true in
    stamped_more _ _ _ _ _ _ _ (rw c.run_of-run.ensures at c.loop-t.auto.t) c.vertex_of-x.result x (omega (arith, c.loop-t.auto.stamps, x, c.requires.plan_formed.0.vertices _ t.below)) c.loop-t.invariant

pub returns : goal.returns
returns c =
    let end = run_end c.requires.indexed c.requires.plan_formed.1 c.run_of-run.ensures c.loop-t.auto.t-end c.loop-t-test.false in
    stamped_all _ _ _ _ c.loop-t.t _ _ _ end c.loop-t.invariant
