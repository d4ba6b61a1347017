use Rattle.order_rows.specs.RowLaws.{Filled}
use Rattle.order_losses.specs.Losses.{falling_rows}
use Rattle.order_losses.proofs.edges.falling.Given as goal

abbrev pub invariant-loop-j : goal.invariant-loop-j
invariant-loop-j l = Filled l.j l.out (falling_rows l.edges l.near l.player l.x)
