-- The class words and the sources of the reduced game's table are below the number of classes, and their counts are those of the definitions.
use native.Mathlib.Omega.{arith}
use Rattle.reduction_totals.specs.CountingLaws.{table_vertices, table_long, classes_few, class_column_read, edge_column_read, totalled}
use Rattle.reduction_totals.proofs.write_totals.Goals as goal

pub bounds-reduced-0 : goal.bounds-reduced-0
bounds-reduced-0 c = omega (arith, table_long c.requires.tabulated)

pub overflow_cast-k : goal.overflow_cast-k
overflow_cast-k c = omega (arith, classes_few c.requires.tabulated)

pub bounds-reduced-1 : goal.bounds-reduced-1
bounds-reduced-1 c = omega (arith, table_long c.requires.tabulated)

pub tally-requires : goal.tally-requires
tally-requires c = let p = c.requires in
    record { column = class_column_read p.tabulated; k_le_vertex_limit = (classes_few p.tabulated, omega (arith, table_vertices p.tabulated, p.game_in_bounds.0)) }

pub overflow_mul-k : goal.overflow_mul-k
overflow_mul-k c = omega (arith, classes_few c.requires.tabulated)

pub overflow_add-k : goal.overflow_add-k
overflow_add-k c = omega (arith, classes_few c.requires.tabulated)

pub tally-requires-2 : goal.tally-requires-2
tally-requires-2 c = let p = c.requires in
    record { column = edge_column_read p.tabulated; k_le_vertex_limit = (classes_few p.tabulated, omega (arith, table_vertices p.tabulated, p.game_in_bounds.1)) }

pub sum_of-requires : goal.sum_of-requires
sum_of-requires c = let p = c.requires in
    (classes_few p.tabulated, omega (arith, table_vertices p.tabulated, p.game_in_bounds.0))

pub sum_of-requires-2 : goal.sum_of-requires-2
sum_of-requires-2 c = let p = c.requires in
    (classes_few p.tabulated, omega (arith, table_vertices p.tabulated, p.game_in_bounds.1))

pub returns : goal.returns
returns c = totalled c.requires.tabulated _ _ _ _ _ _ c.tally.ensures c.tally-2.ensures c.sum_of.ensures c.sum_of-2.ensures
