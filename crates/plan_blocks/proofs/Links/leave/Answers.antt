-- A position that passes the test lies on no closed walk of the wrong parity.
use native.Mathlib.Omega.{arith}
use mathlib.Core.Path.{sym, ◌∙◌}
use Rattle.plan_blocks.specs.RefiningLaws.{leaves_confined, leaves_bounded}
use Rattle.plan_blocks.proofs.Links.leave.Goals as goal

pub returns-then-leaves : goal.returns-then-leaves
returns-then-leaves c = record { confined_2 = leaves_confined _ _ _ _ _ _ _ c.requires.confined c.requires.bounded _ (sym c.leaves.ensures ∙ c.if-leaves.true); bounded_2 = leaves_bounded _ _ _ _ _ _ _ c.requires.confined c.requires.bounded _ (omega (arith, c.requires.p_le_length.0, c.requires.p_le_length.1)) }
