-- Invariant: those of the first x pairs are listed.
use Rattle.std.proofs.Common.{arith}
use Rattle.edit_run.specs.KeptLaws.{kept_start, kept_few, kept_more}
use Rattle.edit_run.proofs.keep_pairs.Goals as goal

pub loop-x-init : goal.loop-x-init
loop-x-init c = let a = c.args in kept_start a.sources.now a.targets.now a.copies.now a.links.now a.end _ _

pub put_pair-e-requires : goal.put_pair-e-requires
put_pair-e-requires c =
    let a = c.args in
    let l = c.loop-x in
    let few = kept_few a.sources.now a.targets.now a.copies.now a.links.now a.end l.x in
    (omega arith, omega arith, omega arith)

pub loop-x-preserved : goal.loop-x-preserved
loop-x-preserved c =
    let a = c.args in
    kept_more a.sources.now a.targets.now a.copies.now a.links.now a.end _ _ _ _ _ _ _ _ _ _
    (omega arith) (omega arith) (rw c.from.ensures at c.is_kept-keep.ensures) c.loop-x.invariant c.put_pair-e.ensures
