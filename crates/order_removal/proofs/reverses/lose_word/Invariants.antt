use mathlib.Core.Path.{◌≡◌}
use lib.ListN.{length}
use Rattle.words.specs.Words.{has}
use Rattle.words.specs.LeftLaws.{Left}
use Rattle.order_sets.specs.ReversesLaws.{WordTo}
use Rattle.order_rows.specs.Bits.{row_bits, cell}
use Rattle.order_removal.proofs.reverses.lose_word.Given as goal

abbrev pub invariant-loop-left : goal.invariant-loop-left
invariant-loop-left l = (length l.next ≡ length l.initial.next)
    × (length l.losing ≡ length l.initial.losing)
    × Left l.which l.left
    × WordTo row_bits l.base l.which l.v (cell l.initial.next) (has l.initial.losing) l.left (cell l.next) (has l.losing)

abbrev pub decreases-loop-left : goal.decreases-loop-left
decreases-loop-left l = l.left
