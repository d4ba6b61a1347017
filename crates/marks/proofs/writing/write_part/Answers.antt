-- The bits are cut off and moved to their places in the byte.
use mathlib.Core.Path.{◌≡◌, sym, ap₂, subst}
use Prim.Native.Nat.{ℕ, ◌-◌, ◌*◌, ◌/◌, ◌%◌, ◌^◌, ◌<◌}
use native.Mathlib.Omega.{arith}
use lib.Bits.{bit_and, bit_or}
use lib.ListN.{set}
use lib.Pow.{pow_pos}
use Rattle.marks.specs.MarkWriting.{next_byte, BitsWritten}
use Rattle.marks.specs.MarkWritingLaws.{power_is, moved_is, moved_lt, bits_start, bits_part}
use Rattle.marks.proofs.writing.write_part.Goals as goal
use Rattle.marks.proofs.writing.write_part.Lts as lts
use Rattle.marks.proofs.writing.write_part.Reads as reads
use Rattle.marks.proofs.writing.write_part.Tie as tie

some : (c : lts.After-begun tie.the-claims reads.Pre reads.Post) → 0 < c.args.count
some c = omega (arith, c.if-count-eq0.false)

-- the bits in their places
moved : (c : lts.After-begun tie.the-claims reads.Pre reads.Post) → let a = c.args in
    bit_and a.word (1 * 2 ^ a.count % 2 ^ 64 - 1) * 2 ^ (a.at % 8) % 2 ^ 64 ≡ a.word % 2 ^ a.count * 2 ^ (a.at % 8)
moved c = moved_is c.args.word c.args.at c.args.count (some c) c.requires.0

pub returns-then-count-eq0 : goal.returns-then-count-eq0
returns-then-count-eq0 c = let a = c.args in rw c.if-count-eq0.true (bits_start a.word a.at a.marks.now)

pub overflow_sub-bits : goal.overflow_sub-bits
overflow_sub-bits c = omega (arith, power_is c.args.count (omega (arith, c.requires.0)), pow_pos c.args.count)

pub overflow_cast-marks : goal.overflow_cast-marks
overflow_cast-marks c = omega (arith, moved c, moved_lt c.args.word c.args.at c.args.count (some c) c.requires.0)

pub returns : goal.returns
unfolding next_byte
returns c = let a = c.args in
    subst (λ (z : ℕ). BitsWritten a.word a.at a.count a.marks.now (set a.marks.now (a.at / 8) z))
    (sym (ap₂ bit_or c.begun-old.ensures (moved c))) (bits_part a.word a.at a.count (some c) c.requires.0 a.marks.now)
