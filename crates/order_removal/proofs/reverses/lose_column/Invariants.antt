use mathlib.Core.Path.{◌≡◌}
use lib.ListN.{length}
use Rattle.words.specs.Words.{has}
use Rattle.order_rows.specs.Bits.{row_bits, cell}
use Rattle.order_sets.specs.ReversesLaws.{ColumnTo}
use Rattle.order_removal.proofs.reverses.lose_column.Given as goal

abbrev pub invariant-loop-j : goal.invariant-loop-j
invariant-loop-j l = (length l.next ≡ length l.initial.next)
    × (length l.losing ≡ length l.initial.losing)
    × ColumnTo row_bits (has l.which) l.v (cell l.initial.next) (has l.initial.losing) l.j (cell l.next) (has l.losing)
