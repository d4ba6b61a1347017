-- The verdict on the sizes is handed on, with the number of different edges where it accepts.
use mathlib.Core.Path.{sym}
use Rattle.std.proofs.lemmas.Result.{err_from_is_err_and}
use mathlib.Core.List.{[]}
use Rattle.table.specs.Reading.{game_rows_by, read_answer}
use Rattle.table.specs.ReadingLaws.{reading_accepted, reading_stays, read_accepts}
use Rattle.table.specs.FlagsLaws.{well_sized, well_inside}
use Rattle.table_reader.proofs.read.Goals as goal

pub returns-in_err-sizes : goal.returns-in_err-sizes
unfolding read_answer game_rows_by
returns-in_err-sizes c = let p = err_from_is_err_and c.from_residual.result c.from_residual.ensures.1 in
    rw (p.1, p.2) (sym (reading_stays _ c.in_err-sizes.field-0.0 c.in_err-sizes.ensures [] _))

pub count_different-different-requires : goal.count_different-different-requires
count_different-different-requires c = let s = reading_accepted _ _ c.in_ok-sizes.ensures in
    rw (s.vertices, s.edges) (well_sized s.well, well_inside s.well)

pub returns : goal.returns
returns c = let s = reading_accepted _ _ c.in_ok-sizes.ensures in
    rw (s.vertices, s.edges, c.count_different-different.ensures) (sym (read_accepts _ s.well))
