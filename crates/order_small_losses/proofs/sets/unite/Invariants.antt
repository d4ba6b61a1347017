use Prim.Native.Nat.{◌+◌}
use Rattle.theory.specs.Logic.Bools.{◌or◌}
use Rattle.words.specs.Word.{word_bits, digit}
use Rattle.words.specs.LeftLaws.{Left, done}
use Rattle.order_sets.specs.Sets.{Is}
use Rattle.order_small_losses.specs.Words.{bit}
use Rattle.order_small_losses.proofs.sets.unite.Given as goal

abbrev pub invariant-loop-left : goal.invariant-loop-left
invariant-loop-left l = Left l.which l.left
    × Is word_bits (digit l.out) (λ x. digit l.initial.out x or done l.which (λ k. bit l.words (l.base + k) x) l.left)

abbrev pub decreases-loop-left : goal.decreases-loop-left
decreases-loop-left l = l.left
