-- `answer` gives the link, and its target answers whoever moves along an edge to w.
use native.Mathlib.Omega.{arith}
use Rattle.carry_replies.specs.RepliesLaws.{reply_yes, reply_none}
use Rattle.carry_replies.proofs.Replies.reply_along.Goals as goal

pub overflow_cast-result : goal.overflow_cast-result
overflow_cast-result c = let f = c.requires.linked.board.formed in
    omega (arith, f.targets c.answer-k.result c.if-k-l.true, f.sized.positions)

pub returns-then-k-l : goal.returns-then-k-l
returns-then-k-l c u t = reply_yes _ _ _ _ _ _ _ c.answer-k.result t c.answer-k.ensures c.if-k-l.true

pub returns : goal.returns
returns c u t = reply_none _ _ _ _ _ _ _ c.answer-k.result t c.answer-k.ensures c.if-k-l.false
