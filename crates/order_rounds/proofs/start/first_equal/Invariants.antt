use mathlib.Core.Path.{◌≡◌}
use Rattle.theory.specs.Logic.Range.{first}
use Rattle.theory.specs.Order.Order.{equal_priority}
use Rattle.table.specs.Table.{game_of}
use Rattle.order_rounds.proofs.start.first_equal.Given as goal

abbrev pub invariant-loop-u : goal.invariant-loop-u
invariant-loop-u l = first (λ w. equal_priority (game_of l.game) (game_of l.game) w l.v) 0 l.v ≡ first (λ w. equal_priority (game_of l.game) (game_of l.game) w l.v) l.u l.v
