-- A word has as many ones as its half, and one more if its lowest bit is set; the count of its set bits goes by the same step.
use Rattle.words.specs.WordLaws.{word_size}
use Rattle.words.proofs.size.Goals as goal

pub returns : goal.returns
returns c = word_size _ c.ranges.word.fits
