-- Invariant: the first x pairs are chained.
use Rattle.std.proofs.Common.{arith}
use Rattle.edit_links.specs.LinksLaws.{chained_none, chained_more}
use Rattle.edit_links.proofs.chain.Goals as goal

pub loop-x-init : goal.loop-x-init
loop-x-init c = chained_none _ _ _ c.requires.by_index.1

pub loop-x-preserved : goal.loop-x-preserved
loop-x-preserved c =
    let l = c.loop-x in
    let p = c.requires.count_in_bounds in
    rw c.from-v.ensures (chained_more _ _ _ _ l.invariant (omega (arith, l.auto.before, p)) (omega (arith, c.requires.by_index.0 l.x c.loop-x-test.true, l.auto.heads, p)))
