-- The zeroed `changed` is empty, as pass 0 needs; the later passes go on from what pass 0 leaves.
use native.Mathlib.Omega.{arith}
use Rattle.order_rows.specs.Bits.{row_words}
use Rattle.order_rows.specs.MatrixLaws.{cell_zero}
use Rattle.std.proofs.Common.{rules}
use Rattle.order_rounds.proofs.rounds.Goals as goal

pub begin-requires : goal.begin-requires
begin-requires c = let fit = c.requires.rows_fit in record { well_formed = c.requires.well_formed; edge_rows = c.requires.edge_rows; relation_words_in_bounds = (fit.0, fit.1, fit.2); row_words_in_bounds = search rules; by_index = λ x h. cell_zero row_words 0 x }

pub settle-requires : goal.settle-requires
settle-requires c = let fit = c.requires.rows_fit in
    let b = c.begin in
    let k = b.auto in record { well_formed = c.requires.well_formed; edge_rows = c.requires.edge_rows; rows_fit = ((omega (arith, fit, k), omega (arith, fit, k), omega (arith, fit, k), omega (arith, fit, k)), omega (arith, k)); begun = b.ensures }

pub returns : goal.returns
returns c = c.settle.ensures
