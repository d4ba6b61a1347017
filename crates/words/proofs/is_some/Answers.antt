-- A word is below 2^64, so if it is not 0, one of its 64 bits is set; 0 has none.
use Rattle.words.specs.WordLaws.{word_some}
use Rattle.words.proofs.is_some.Goals as goal

pub returns : goal.returns
returns c = word_some _ c.ranges.word.fits
