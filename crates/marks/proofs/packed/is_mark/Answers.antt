-- The byte is shifted so that the mark is its lowest digit.
use Rattle.words.specs.WordLaws.{digit_read}
use Rattle.marks.specs.Marks.{is_mark}
use Rattle.marks.proofs.packed.is_mark.Goals as goal

pub returns : goal.returns
unfolding is_mark
returns c = digit_read _ _
