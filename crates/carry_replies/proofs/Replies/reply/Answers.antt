-- The flag of (u, w) says whether there is an edge, and `reply_along` the position.
use mathlib.Core.Path.{sym, ◌∙◌}
use Rattle.carry_replies.specs.RepliesLaws.{reply_no}
use Rattle.carry_replies.proofs.Replies.reply.Goals as goal

pub returns-then-is_edge : goal.returns-then-is_edge
returns-then-is_edge c = let b = c.requires.i_bound in
    c.reply_along.ensures _ (sym (c.is_edge.ensures ∙ c.requires.readable.flags.edge _ _ b.1 b.2) ∙ c.if-is_edge.true)

pub returns : goal.returns
returns c = let b = c.requires.i_bound in
    reply_no _ _ _ _ _ _ _ (sym (c.is_edge.ensures ∙ c.requires.readable.flags.edge _ _ b.1 b.2) ∙ c.if-is_edge.false)
