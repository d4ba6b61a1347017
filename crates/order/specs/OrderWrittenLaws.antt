-- The rows that the rounds leave, written and copied, are the order or, with `mirror`, the governed bisimulation.
use Rattle.std.specs.Prelude.{◌≡◌, Bool, List, ℕ, length}
use Rattle.std.proofs.Common.{ap, ◌∙◌}
use Rattle.theory.specs.Order.Passes.{Rel}
use Rattle.theory.specs.Order.Governed.{marks_by, passes_by}
use Rattle.theory.proofs.Order.GovernedLaws.{length_by}
use Rattle.table.specs.Table.{vertex_count, game_of}
use Rattle.marks.specs.Marks.{bytes_for, marks_length}
use Rattle.marks.specs.MarksLaws.{length_bytes}
use Rattle.marks.specs.MarkWriting.{RowsWritten, Copied}
use Rattle.marks.specs.MarkWritingLaws.{rows_are, copied_is}
use Rattle.order_sets.specs.Rounds.{SettledIn}
use Rattle.order.specs.OrderCall.{bytes_of}
use Rattle.order.specs.OrderWritten.{MarksFilled, MarksDone}

-- whatever words the rows stand in
pub rows_done : (mirror : Bool) (game marks : List ℕ) (related : Rel) (passes : ℕ) (marks' : List ℕ) → SettledIn mirror (game_of game) passes related
    → RowsWritten (vertex_count game) related marks marks' → MarksFilled (marks_by mirror) (passes_by mirror) game marks passes marks'
unfolding game_of
rows_done mirror game marks related passes marks' s m = record {
  count = s.count;
  marks_after = rows_are (vertex_count game) related (marks_by mirror (game_of game)) marks marks' m (length_by (game_of game) mirror) s.marks;
}

pub copy_done : (mirror : Bool) (game marks spare : List ℕ) (passes : ℕ) (marks' spare' : List ℕ)
    → MarksFilled (marks_by mirror) (passes_by mirror) game marks passes marks' → Copied (marks_length (vertex_count game)) marks' spare spare'
    → MarksDone (marks_by mirror) (passes_by mirror) game marks spare passes marks' spare'
unfolding game_of
copy_done mirror game marks spare passes marks' spare' f c = record {
  count = f.count;
  marks_after = f.marks_after;
  spare_after = copied_is (bytes_of (marks_by mirror) game) marks marks' spare spare' f.marks_after (rw size c);
}
  where
    size : length (bytes_of (marks_by mirror) game) ≡ marks_length (vertex_count game)
    size = length_bytes (marks_by mirror (game_of game)) ∙ ap bytes_for (length_by (game_of game) mirror)
