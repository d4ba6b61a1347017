-- A whole word at the start of a byte, or its parts.
use mathlib.Core.Path.{◌≡◌}
use native.Mathlib.Omega.{arith}
use Rattle.words.specs.Word.{word_bits}
use Rattle.marks.proofs.writing.write_bits.Goals as goal

pub returns-then-at-count : goal.returns-then-at-count
returns-then-at-count c = let n : c.args.count ≡ word_bits = omega (arith, c.if-at-count.true, c.requires) in
    rw n c.write_whole.ensures.1
