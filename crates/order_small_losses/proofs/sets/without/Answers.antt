-- A bit of a ^ (a & b) is set exactly if it is set in a and not in b.
use Rattle.words.specs.WordLaws.{digit_less}
use Rattle.order_small_losses.proofs.sets.without.Goals as goal

pub returns : goal.returns
returns c = λ x h. digit_less _ _ x
