-- A word other than 0 has a set bit at the number of its trailing zeros, and none below it.
use native.Mathlib.Omega.{arith}
use Rattle.words.specs.WordLaws.{lowest_is}
use Rattle.words.proofs.lowest.Goals as goal

pub overflow_cast-result : goal.overflow_cast-result
overflow_cast-result c = omega (arith, (lowest_is _ c.ranges.word.fits c.requires).inside)

pub returns : goal.returns
returns c = lowest_is _ c.ranges.word.fits c.requires
