use Rattle.words.specs.Word.{word_bits, digit}
use Rattle.words.specs.LeftLaws.{Left, picked}
use Rattle.order_sets.specs.Sets.{Is, apart_in}
use Rattle.order_small_losses.specs.Words.{bit}
use Rattle.order_small_losses.proofs.sets.apart_of.Given as goal

abbrev pub invariant-loop-left : goal.invariant-loop-left
invariant-loop-left l = Left l.which l.left
    × Is word_bits (digit l.out) (picked l.which (λ k. apart_in word_bits (bit l.words) k (digit l.x)) l.left)

abbrev pub decreases-loop-left : goal.decreases-loop-left
decreases-loop-left l = l.left
