-- The move is no edge, or the source of that edge decides.
use borrow.Author.Tests.{le-leb, lt-leb}
use Rattle.theory.specs.Logic.Bools.{◌or◌}
use Rattle.large_moves.specs.Moves.{move_strays}
use Rattle.large_moves.proofs.Moves.move_strays.Goals as goal

pub returns-then-self-e : goal.returns-then-self-e
unfolding move_strays ◌or◌
returns-then-self-e c = rw (le-leb _ _ c.if-self-e.true)

pub returns : goal.returns
unfolding move_strays ◌or◌
returns c = rw (lt-leb _ _ c.if-self-e.false)
