-- The shift moves flag i to the lowest place of its word, and the mask keeps only that bit.
use Rattle.words.specs.Words.{has}
use Rattle.words.specs.WordLaws.{digit_read}
use Rattle.table.proofs.flags.is_flagged.Goals as goal

pub returns : goal.returns
unfolding has
returns c = digit_read _ _
