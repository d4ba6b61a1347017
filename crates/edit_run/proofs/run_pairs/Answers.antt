-- Invariant: the counts hold before the next entry, and all before it are passed.
use Rattle.std.proofs.Common.{◌≡◌, ◌-◌, refl, arith}
use Rattle.edit_run.specs.EnterLaws.{going_start, going_next, going_end, going_stop}
use Rattle.edit_run.proofs.run_pairs.Goals as goal

pub loop-done-init : goal.loop-done-init
loop-done-init c = (refl, refl, going_start c.requires.pairs.1 c.requires.n_le_vertex_limit.1 c.requires.tallied)

pub enter-entry-requires : goal.enter-entry-requires
enter-entry-requires c =
    let p = c.requires.pairs in
    let q = c.requires.n_le_vertex_limit in
    let l = c.loop-done in
    record {
      pairs = (p.0, p.1, p.2, (omega arith));
      n_le_vertex_limit = (q.0, l.invariant.2.few, q.2, omega (arith, l.invariant.0, q), omega (arith, l.invariant.1, q));
      tallied = l.invariant.2.tally;
    }

pub loop-done-preserved : goal.loop-done-preserved
loop-done-preserved c =
    let l = c.loop-done in
    let done = rw c.in-Ok.is at c.enter-entry.ensures in (
      omega (arith, c.enter-entry.auto, l.invariant.0),
      omega (arith, c.enter-entry.auto, l.invariant.1),
      going_next l.invariant.2 (omega arith) done.0 done.1 c.max-most.ensures,
    )

pub returns : goal.returns
returns c =
    let end : c.loop-done.done ≡ c.args.count - c.args.m = omega arith in
    rw (← end) (going_end c.loop-done.invariant.2 (omega arith) _)

pub returns-in-Err : goal.returns-in-Err
returns-in-Err c =
    let stopped = rw c.in-Err.is at c.enter-entry.ensures in
    going_stop c.loop-done.invariant.2 (omega arith) _ stopped.0 stopped.1
