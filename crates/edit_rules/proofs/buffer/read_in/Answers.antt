-- The part that is read is the table.
use mathlib.Core.Path.{sym, ap, ◌∙◌}
use lib.Seq.{length-take-le}
use Rattle.table.specs.Reading.{sizes_answer}
use Rattle.edit_rules.proofs.buffer.read_in.Goals as goal

pub slice_bounds-read_sizes-end : goal.slice_bounds-read_sizes-end
slice_bounds-read_sizes-end c = sym (length-take-le _ _ c.table_end-end.ensures.0)

pub returns : goal.returns
returns c = c.read_sizes.ensures ∙ ap sizes_answer c.table_end-end.ensures.1
