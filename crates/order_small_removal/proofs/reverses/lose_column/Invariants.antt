use mathlib.Core.Path.{◌≡◌}
use lib.ListN.{length}
use Rattle.words.specs.Word.{word_bits, digit}
use Rattle.words.specs.LeftLaws.{Left}
use Rattle.order_sets.specs.ReversesLaws.{WordTo}
use Rattle.order_small_losses.specs.Words.{bit}
use Rattle.order_small_removal.proofs.reverses.lose_column.Given as goal

abbrev pub invariant-loop-left : goal.invariant-loop-left
invariant-loop-left l = (length l.next ≡ length l.initial.next)
    × Left l.which l.left
    × WordTo word_bits 0 l.which l.v (bit l.initial.next) (digit l.losing) l.left (bit l.next) (digit l.more)

abbrev pub decreases-loop-left : goal.decreases-loop-left
decreases-loop-left l = l.left
