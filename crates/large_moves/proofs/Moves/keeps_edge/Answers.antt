-- The winner's word isn't the owner's, or the move decides.
use borrow.Author.Tests.{eq-eqb, ne_eqb}
use Rattle.theory.specs.Logic.Bools.{◌or◌}
use Rattle.large_moves.specs.Moves.{keeps_edge}
use Rattle.large_moves.proofs.Moves.keeps_edge.Goals as goal

pub returns-then-self-v : goal.returns-then-self-v
unfolding keeps_edge ◌or◌
returns-then-self-v c = rw (ne_eqb _ _ c.if-self-v.true)

pub returns : goal.returns
unfolding keeps_edge ◌or◌
returns c = rw (eq-eqb _ _ c.if-self-v.false)
