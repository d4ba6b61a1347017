-- The word is shifted so that the first mark is its lowest bit, and the bits of other marks are cut off.
use native.Mathlib.Omega.{arith}
use lib.Pow.{pow_pos}
use Rattle.marks.specs.MarkWritingLaws.{power_is}
use Rattle.marks.specs.MarkReadingLaws.{read_part}
use Rattle.marks.proofs.reading.read_bits.Goals as goal

pub overflow_sub-result : goal.overflow_sub-result
overflow_sub-result c = omega (arith, power_is c.args.count (omega (arith, c.requires.0)), pow_pos c.args.count)

pub returns : goal.returns
returns c = read_part c.args.marks.now c.args.at c.args.count _ c.requires.0 c.read_word-word.ensures
