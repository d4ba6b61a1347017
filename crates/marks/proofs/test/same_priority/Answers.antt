-- The two words are the priorities of the game.
use mathlib.Core.Path.{refl}
use Rattle.theory.specs.Order.Order.{equal_priority}
use Rattle.table.specs.Table.{game_of}
use Rattle.marks.proofs.test.same_priority.Goals as goal

pub returns : goal.returns
unfolding equal_priority game_of
returns c = refl
