-- The links from k on are chained.
use Rattle.std.proofs.Common.{◌≡◌, ℕ, ◌+◌, ◌-◌, arith}
use Rattle.carry_replies.specs.ChainLaws.{chained_none, chained_more}
use Rattle.carry_replies.proofs.chain_links.Goals as goal

pub loop-k-init : goal.loop-k-init
loop-k-init c = chained_none _ _ _ _ _ _ c.fill.ensures

pub loop-k-preserved : goal.loop-k-preserved
loop-k-preserved c =
    let l = c.loop-k in
    let k : ℕ = l.k - 1 in
    let q : l.k ≡ k + 1 = omega arith in
    rw c.from-i.ensures
    (chained_more _ _ _ _ _ k (rw q at l.invariant) (omega arith) (omega arith) (omega arith) (c.requires.by_index k (omega arith)))
