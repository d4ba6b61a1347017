-- The arrays hold the rows of any well-formed table.
use native.Mathlib.Omega.{arith}
use Rattle.order_rows.specs.MatrixLaws.{cell_zero}
use Rattle.order_losses.specs.Losses.{edge_words}
use Rattle.order.specs.OrderWrittenLaws.{rows_done}
use Rattle.order.proofs.wide.fill_wide.Goals as goal

pub fill-requires : goal.fill-requires
fill-requires c = record { well_formed = c.requires.0; edge_words_in_bounds = omega arith; by_index = cell_zero edge_words }

pub rounds-passes-requires : goal.rounds-passes-requires
rounds-passes-requires c = let f = c.fill in
    record { well_formed = c.requires.0; edge_rows = (f.ensures, omega (arith, f.auto)); rows_fit = (omega arith, omega arith, omega arith, omega arith) }

pub write_marks-requires : goal.write_marks-requires
write_marks-requires c = (c.requires.0.vertices, omega (arith, c.rounds-passes.auto, c.requires.0.vertices), c.requires.1)

pub returns : goal.returns
returns c = rows_done c.args.mirror c.args.game.now _ _ _ _ c.rounds-passes.ensures c.write_marks.ensures
