use Rattle.theory.specs.Order.Order.{order}
use Rattle.table.specs.Table.{vertex_count, game_of}
use Rattle.carry_output.specs.CarryParts.{LowestFrom}
use Rattle.carry_output.proofs.seats.fill_lowest.Given as goal

abbrev pub invariant-loop-v : goal.invariant-loop-v
invariant-loop-v l = LowestFrom (vertex_count l.game) (order (game_of l.game)) l.v l.reps
