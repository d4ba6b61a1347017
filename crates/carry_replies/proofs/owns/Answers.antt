-- The owner word of v is read.
use native.Mathlib.Omega.{arith}
use mathlib.Core.Path.{sym}
use Prim.Native.Nat.{◌+◌}
use lib.ListN.{get_or}
use Rattle.table.specs.TableLaws.{own_number}
use Rattle.carry_replies.proofs.owns.Goals as goal

pub overflow_cast-result : goal.overflow_cast-result
overflow_cast-result c = omega (arith, c.shared_slice_known-2-1.given (2 + get_or c.args.game.now 0 0 + c.args.v))

pub returns : goal.returns
returns c = sym (own_number c.args.game.now c.requires.0 c.args.player c.args.v c.requires.1 c.requires.2)
