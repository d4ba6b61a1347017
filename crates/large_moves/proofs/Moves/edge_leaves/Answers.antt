-- The winners are the same, or the edge is kept or not.
use borrow.Author.Tests.{eq-eqb, ne_eqb}
use Rattle.theory.specs.Logic.Bools.{◌&◌}
use Rattle.large_moves.specs.Moves.{edge_leaves}
use Rattle.large_moves.proofs.Moves.edge_leaves.Goals as goal

pub returns-then-self-w : goal.returns-then-self-w
unfolding edge_leaves ◌&◌
returns-then-self-w c = rw (eq-eqb _ _ c.if-self-w.true)

pub returns : goal.returns
unfolding edge_leaves ◌&◌
returns c = rw (ne_eqb _ _ c.if-self-w.false) c.keeps_edge.ensures
