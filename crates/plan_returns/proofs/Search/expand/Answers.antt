-- The state is the one before, grown by the targets of the group before t. The queue has room, since it lists stamped positions, each once.
use native.Mathlib.Omega.{arith}
use Prim.Native.Nat.{◌≤◌, ◌<◌}
use mathlib.Core.Path.{sym}
use lib.ListN.{get_or}
use Rattle.index.specs.IndexLaws.{indexed_size}
use Rattle.plan_links.specs.LinkIndexLaws.{run_target, run_end}
use Rattle.plan_returns.specs.SearchLaws.{queued_le, grown_none, grown_more, grown_all}
use Rattle.plan_returns.proofs.Search.expand.Goals as goal

pub run_of-run-requires : goal.run_of-run-requires
run_of-run-requires c = omega (arith, indexed_size c.requires.workspace.0.index, c.requires.workspace.1)

pub loop-t-init : goal.loop-t-init
loop-t-init c = rw c.run_of-run.ensures (grown_none _ _ _ _ _ _ _ _ c.requires.queued)

pub offset_bounds-self-t : goal.offset_bounds-self-t
offset_bounds-self-t c = omega (arith, (run_target c.requires.workspace.0.index c.requires.workspace.1 c.run_of-run.ensures c.loop-t.auto.t c.loop-t-test.true).inside)

pub bounds-self-t : goal.bounds-self-t
bounds-self-t c = (run_target c.requires.workspace.0.index c.requires.workspace.1 c.run_of-run.ensures c.loop-t.auto.t c.loop-t-test.true).inside

pub visit-last-requires : goal.visit-last-requires
visit-last-requires c =
    let w = c.requires.workspace.0 in
    let l = c.loop-t in
    let below : c.from.result < c.args.self.now.links.p = rw c.from.ensures (run_target w.index c.requires.workspace.1 c.run_of-run.ensures l.auto.t c.loop-t-test.true).below in (
      omega (arith, w.values),
      omega (arith, w.grouped),
      omega (arith, queued_le _ _ _ _ _ l.invariant.queued, w.few, l.memory.entries),
      omega (arith, w.few),
    )

pub loop-t-preserved : goal.loop-t-preserved
loop-t-preserved c =
    let w = c.requires.workspace.0 in
    let l = c.loop-t in
    let below : c.from.result < c.args.self.now.links.p = rw c.from.ensures (run_target w.index c.requires.workspace.1 c.run_of-run.ensures l.auto.t c.loop-t-test.true).below in
    let from : get_or c.args.self.now.links.starts.now c.args.j 0 ≤ l.t = rw c.run_of-run.ensures at l.auto.t in
    grown_more _ _ _ _ _ _ _ _ l.t l.memory.seen l.memory.queue l.last from l.invariant
    c.from.result (sym c.from.ensures) below (omega (arith, w.few, l.memory.stamps)) (omega (arith, queued_le _ _ _ _ _ l.invariant.queued, w.few, l.memory.entries))
    _ _ _ c.visit-last.ensures

pub returns : goal.returns
returns c =
    let l = c.loop-t in
    let end = run_end c.requires.workspace.0.index c.requires.workspace.1 c.run_of-run.ensures l.auto.t-end c.loop-t-test.false in
    grown_all _ c.args.self.now.links.starts.now c.args.self.now.links.targets.now c.args.j l.t end l.invariant
