-- Sizes, priorities, and the words behind them: together they are the table.
use native.Mathlib.Omega.{arith}
use mathlib.Core.Path.{◌≡◌, ◌∙◌}
use lib.ListN.{length, length-set, length-take, length-drop}
use Rattle.table_convert.specs.PriorityRangeLaws.{table_parts}
use Rattle.table_convert.proofs.writing.write_table.Goals as goal
use Rattle.table_convert.proofs.writing.write_table.Lts as lts
use Rattle.table_convert.proofs.writing.write_table.Reads as reads
use Rattle.table_convert.proofs.writing.write_table.Tie as tie

-- the output keeps its length
kept : (c : lts.After-write_priorities tie.the-claims reads.Pre reads.Post tie.handed_clauses) → length c.write_priorities.new.output ≡ length c.args.output.now
kept c = c.write_priorities.auto.output ∙ simp length-set

pub bounds-output-1 : goal.bounds-output-1
bounds-output-1 c = simp length-set (omega (arith, c.requires.m_in_bounds.0))

pub write_priorities-requires : goal.write_priorities-requires
write_priorities-requires c = let p = c.requires in
    (omega (arith, p.well_formed.0.size, p.well_formed.1), simp length-set (omega (arith, p.m_in_bounds.0)), p.m_in_bounds.1)

pub copy-requires : goal.copy-requires
copy-requires c = let p = c.requires in
    (omega (arith, kept c.before.before.before.before.before, p.m_in_bounds.0), simp (length-take, length-drop) (omega (arith, p.well_formed.0.size, p.well_formed.1, p.well_formed.2)))

pub shape_of-output : goal.shape_of-output
shape_of-output c = c.copy.auto.words ∙ kept c.before.before.before.before.before.before.before.before

pub returns : goal.returns
returns c = let p = c.requires in
    table_parts _ _ _ _ _ _ _ p.well_formed.1 p.well_formed.2 p.well_formed.3 p.well_formed.0 p.m_in_bounds.0 c.write_priorities.ensures c.copy.ensures
