-- By the player's number.
use borrow.Author.Tests.{ne_eqb}
use Rattle.theory.specs.Classes.Reduction.{no_better}
use Rattle.table.specs.Table.{player_of}
use Rattle.carry_replies.proofs.no_better.Goals as goal

pub returns-then-player-eq0 : goal.returns-then-player-eq0
unfolding player_of no_better
returns-then-player-eq0 c = rw c.if-player-eq0.true c.is_marked.ensures

pub returns : goal.returns
unfolding player_of no_better
returns c = rw (ne_eqb _ _ c.if-player-eq0.false) c.is_marked-2.ensures
