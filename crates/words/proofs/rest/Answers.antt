-- Taking 1 away changes the lowest set bit and the zeros below it alone, so the `and` clears that bit alone, and the word gets smaller.
use Rattle.words.specs.WordLaws.{rest_is}
use Rattle.words.proofs.rest.Goals as goal

pub returns : goal.returns
returns c = rest_is _ c.ranges.word.fits c.requires
