-- What the rounds leave holds the order.
use Rattle.classes.specs.OrderedMarksLaws.{ordered_done}
use Rattle.reduction.proofs.tables.fill_memory.Goals as goal

pub fill_order-passes-requires : goal.fill_order-passes-requires
fill_order-passes-requires c = let f = c.requires.classes_fit.order_fits in record { well_formed = f.game; game_in_bounds = (f.marks_fit, f.spare_fit) }

pub fill_table-counts-requires : goal.fill_table-counts-requires
fill_table-counts-requires c = let f = c.requires in
    let g = f.classes_fit.order_fits in
    record { well_formed = (g.game, ordered_done g.marks_fit c.fill_order-passes.ensures); game_in_bounds = (f.classes_fit.words_fit, f.output_fit) }

pub returns : goal.returns
returns c = record { order = c.fill_order-passes.ensures; table = c.fill_table-counts.ensures }
