-- A reply is a move, and without one nothing changes.
use Rattle.carry_replies.specs.RepliesLaws.{move_yes, move_no}
use Rattle.carry_search.specs.SearchMemoryLaws.{moved_none}
use Rattle.carry_search.proofs.step.Goals as goal

pub returns-then-j-p : goal.returns-then-j-p
returns-then-j-p c = rw (move_yes _ _ _ _ _ _ _ _ c.reply-j.ensures c.if-j-p.true) c.visit.ensures

pub returns : goal.returns
returns c = rw (move_no _ _ _ _ _ _ _ c.requires.readable.links.board _ c.reply-j.ensures c.if-j-p.false) (moved_none _ _ _ c.requires.search_room.0)
