-- Each way out is row 34, row 35, or the plan's words.
use mathlib.Core.Logic.{inl, inr}
use Rattle.carry_output.specs.OutputLaws.{found_many, found_short, found_written}
use Rattle.carry_output.proofs.output.write_found.Goals as goal

pub returns-then-p-gt-POSITIONS : goal.returns-then-p-gt-POSITIONS
returns-then-p-gt-POSITIONS c = rw c.refused.ensures (found_many _ _ _ _ _ _ (inl c.if-p-gt-POSITIONS.true))

pub returns-then-l-gt-LINKS : goal.returns-then-l-gt-LINKS
returns-then-l-gt-LINKS c = rw c.refused-then-l-gt-LINKS.ensures (found_many _ _ _ _ _ _ (inr c.if-l-gt-LINKS.true))

pub returns-then-output-needed : goal.returns-then-output-needed
returns-then-output-needed c = rw c.refused-then-output-needed.ensures (found_short _ _ _ _ _ _ c.if-p-gt-POSITIONS.false c.if-l-gt-LINKS.false c.if-output-needed.true)

pub write_plan-requires : goal.write_plan-requires
write_plan-requires c = record { p_le_position_limit = (c.if-p-gt-POSITIONS.false, c.if-l-gt-LINKS.false, c.requires); l_in_bounds = c.if-output-needed.false }

pub returns : goal.returns
returns c = found_written _ _ _ _ _ _ c.if-p-gt-POSITIONS.false c.if-l-gt-LINKS.false c.if-output-needed.false _ c.write_plan.ensures
