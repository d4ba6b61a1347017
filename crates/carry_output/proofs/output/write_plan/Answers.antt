-- Each part is put behind the one before it, so the four together are the plan's words.
use mathlib.Core.Path.{◌≡◌, refl, ◌∙◌}
use native.Mathlib.Omega.{arith}
use lib.ListN.{length, length-set}
use Rattle.carry_output.specs.OutputLaws.{plan_parts}
use Rattle.carry_output.proofs.output.write_plan.Goals as goal
use Rattle.carry_output.proofs.output.write_plan.Lts as lts
use Rattle.carry_output.proofs.output.write_plan.Reads as reads
use Rattle.carry_output.proofs.output.write_plan.Tie as tie

-- the output keeps its length
kept1 : (c : lts.After-copy_part tie.the-claims reads.Pre reads.Post tie.handed_clauses) → length c.copy_part.new.output ≡ length c.args.output.now
kept1 c = c.copy_part.auto.output ∙ simp length-set

kept2 : (c : lts.After-copy_part2 tie.the-claims reads.Pre reads.Post tie.handed_clauses) → length c.copy_part-2.new.output ≡ length c.args.output.now
kept2 c = c.copy_part-2.auto.output ∙ kept1 c.before.before.before.before

pub bounds-output-1 : goal.bounds-output-1
bounds-output-1 c = simp length-set (omega (arith, c.requires.l_in_bounds))

pub copy_part-requires : goal.copy_part-requires
copy_part-requires c = (simp length-set (omega (arith, c.requires.l_in_bounds)), omega (arith, c.requires.p_le_position_limit.0), omega (arith, c.requires.p_le_position_limit.2))

pub copy_part-requires-2 : goal.copy_part-requires-2
copy_part-requires-2 c = (omega (arith, kept1 c.before.before.before.before, c.requires.l_in_bounds), omega (arith, c.requires.p_le_position_limit.1), omega (arith, c.requires.p_le_position_limit.2))

pub copy_part-requires-3 : goal.copy_part-requires-3
copy_part-requires-3 c = (omega (arith, kept2 c.before.before.before.before, c.requires.l_in_bounds), omega (arith, c.requires.p_le_position_limit.1), omega (arith, c.requires.p_le_position_limit.2))

pub shape_of-output : goal.shape_of-output
shape_of-output c = c.copy_part-3.auto.output ∙ kept2 c.before.before.before.before.before.before.before

pub returns : goal.returns
returns c = plan_parts _ _ _ _ _ _ _ _ _ _ c.requires.l_in_bounds refl c.copy_part.ensures c.copy_part-2.ensures c.copy_part-3.ensures
