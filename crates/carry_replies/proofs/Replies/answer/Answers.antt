-- The walk goes along the chain of i: no link before k is the one to follow, which `link_to_is` tells.
use native.Mathlib.Omega.{arith}
use mathlib.Core.Path.{sym, ◌∙◌}
use Rattle.carry_replies.specs.ChainLaws.{pass_start, pass_next, chain_ascends, pass_hit, pass_own, pass_end}
use Rattle.carry_replies.specs.RepliesLaws.{link_to_is}
use Rattle.carry_replies.proofs.Replies.answer.Goals as goal

pub loop-k-init : goal.loop-k-init
loop-k-init c = pass_start _ _ _ _ _ _ _ _ c.requires.linked.chains c.requires.i_bound.0

pub returns-then-link_keeps : goal.returns-then-link_keeps
returns-then-link_keeps c = pass_hit _ _ _ _ _ c.loop-k.k c.loop-k-test.true c.loop-k.invariant (sym c.link_keeps.ensures ∙ c.if-link_keeps.true)
    ∙ link_to_is _ _ _ _ c.requires.linked.board.formed c.args.i c.args.w c.requires.i_bound.0 _ c.owns-lone.ensures

pub returns-then-lone : goal.returns-then-lone
returns-then-lone c = pass_own _ _ _ _ _ c.loop-k.k c.loop-k.invariant c.if-lone.true (sym c.link_keeps.ensures ∙ c.if-link_keeps.false)
    ∙ link_to_is _ _ _ _ c.requires.linked.board.formed c.args.i c.args.w c.requires.i_bound.0 _ c.owns-lone.ensures

pub loop-k-smaller : goal.loop-k-smaller
loop-k-smaller c = let h = c.loop-k-test.true in
    omega (arith, h, chain_ascends _ _ _ _ _ c.requires.linked.chains c.loop-k.k h)

pub loop-k-preserved : goal.loop-k-preserved
loop-k-preserved c = pass_next _ _ _ _ _ _ _ _ c.requires.linked.chains c.loop-k.k c.loop-k-test.true c.loop-k.invariant
    c.if-lone.false (sym c.link_keeps.ensures ∙ c.if-link_keeps.false)

pub returns : goal.returns
returns c = pass_end _ _ _ _ _ c.loop-k.k c.loop-k-test.false c.loop-k.invariant
    ∙ link_to_is _ _ _ _ c.requires.linked.board.formed c.args.i c.args.w c.requires.i_bound.0 _ c.owns-lone.ensures
