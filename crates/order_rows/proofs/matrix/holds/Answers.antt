-- The shift moves the bit of x to the lowest place of its word, and the mask keeps only that bit.
use Rattle.order_rows.specs.Bits.{cell}
use Rattle.words.specs.WordLaws.{digit_read}
use Rattle.order_rows.proofs.matrix.holds.Goals as goal

pub returns : goal.returns
unfolding cell
returns c = digit_read _ _
