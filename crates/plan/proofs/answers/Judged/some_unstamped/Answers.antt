-- No target of the group before t lacks the stamp.
use native.Mathlib.Omega.{arith}
use Prim.Native.Nat.{◌≤◌, ◌<◌, ◌+◌}
use mathlib.Core.Path.{sym}
use lib.ListN.{get_or}
use Rattle.index.specs.IndexLaws.{indexed_size}
use Rattle.plan_links.specs.LinkIndexLaws.{run_target, run_end}
use Rattle.plan.specs.StampsLaws.{unstamped_none, unstamped_not, unstamped_here, unstamped_all}
use Rattle.plan.proofs.answers.Judged.some_unstamped.Goals as goal

pub run_of-run-requires : goal.run_of-run-requires
run_of-run-requires c = omega (arith, indexed_size c.requires.indexed, c.requires.v_lt_n.0)

pub loop-t-init : goal.loop-t-init
loop-t-init c = rw c.run_of-run.ensures (unstamped_none c.args.self.now.edge_starts.now c.args.self.now.edge_targets.now c.args.stamps.now c.args.v c.args.stamp)

pub offset_bounds-self-t : goal.offset_bounds-self-t
offset_bounds-self-t c = omega (arith, (run_target c.requires.indexed c.requires.v_lt_n.0 c.run_of-run.ensures c.loop-t.auto.t c.loop-t-test.true).inside)

pub bounds-self-t : goal.bounds-self-t
bounds-self-t c = (run_target c.requires.indexed c.requires.v_lt_n.0 c.run_of-run.ensures c.loop-t.auto.t c.loop-t-test.true).inside

pub bounds-stamps-from : goal.bounds-stamps-from
bounds-stamps-from c =
    let below = (run_target c.requires.indexed c.requires.v_lt_n.0 c.run_of-run.ensures c.loop-t.auto.t c.loop-t-test.true).below in
    rw c.from.ensures (omega (arith, below, c.requires.v_lt_n.2))

pub returns-then-stamps-from : goal.returns-then-stamps-from
returns-then-stamps-from c =
    let a = c.args in
    let from : get_or a.self.now.edge_starts.now a.v 0 ≤ c.loop-t.t = rw c.run_of-run.ensures at c.loop-t.auto.t in
    let below : c.loop-t.t < get_or a.self.now.edge_starts.now (a.v + 1) 0 = rw c.run_of-run.ensures at c.loop-t-test.true in
    sym (unstamped_here a.self.now.edge_starts.now a.self.now.edge_targets.now a.stamps.now a.v a.stamp c.loop-t.t from below (rw c.from.ensures at c.if-stamps-from.true))

pub loop-t-preserved : goal.loop-t-preserved
loop-t-preserved c =
    let a = c.args in
    unstamped_not a.self.now.edge_starts.now a.self.now.edge_targets.now a.stamps.now a.v a.stamp _ _ (rw c.from.ensures at c.if-stamps-from.false) c.loop-t.invariant

pub returns : goal.returns
returns c =
    let a = c.args in
    let end = run_end c.requires.indexed c.requires.v_lt_n.0 c.run_of-run.ensures c.loop-t.auto.t-end c.loop-t-test.false in
    sym (unstamped_all a.self.now.edge_starts.now a.self.now.edge_targets.now a.stamps.now a.v a.stamp c.loop-t.t end c.loop-t.invariant)
