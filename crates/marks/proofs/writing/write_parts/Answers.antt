-- The parts join: what is left of the first byte, whole bytes, the rest.
use mathlib.Core.Path.{◌≡◌, ◌∙◌}
use Prim.Native.Nat.{◌+◌, ◌-◌, ◌*◌, ◌/◌, ◌%◌, ◌^◌}
use native.Mathlib.Omega.{arith}
use lib.Pow.{shr-shr}
use Rattle.marks.specs.MarkWritingLaws.{bits_join}
use Rattle.marks.proofs.writing.write_parts.Goals as goal

pub returns : goal.returns
returns c = let a = c.args in
    let gap = 8 - a.at % 8 in
    let whole = (a.count - gap) / 8 in
    let left : c.write_whole-rest.result ≡ a.word / 2 ^ (gap + 8 * whole) = c.write_whole-rest.ensures.0 ∙ shr-shr a.word gap (8 * whole) in
    let all : gap + 8 * whole + (a.count - (gap + 8 * whole)) ≡ a.count = omega (arith, c.if-count-gap.false) in
    rw all at
    (bits_join a.word a.at (gap + 8 * whole) (a.count - (gap + 8 * whole)) _ _ _
    (bits_join a.word a.at gap (8 * whole) _ _ _ c.write_part-2.ensures c.write_whole-rest.ensures.1)
    (rw left at c.write_part-3.ensures))
