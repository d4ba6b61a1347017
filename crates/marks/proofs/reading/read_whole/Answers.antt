-- k bytes are read: the next one is moved above their bits, where none is set.
use Prim.Native.Nat.{◌+◌, ◌^◌, ◌<◌}
use native.Mathlib.Omega.{arith}
use lib.ListN.{get_or}
use Rattle.marks.specs.MarkReadingLaws.{read_none, read_byte}
use Rattle.marks.proofs.reading.read_whole.Goals as goal

pub loop-k-init : goal.loop-k-init
loop-k-init c = read_none _ _

pub loop-k-preserved : goal.loop-k-preserved
loop-k-preserved c =
    let small : get_or c.args.marks.now (c.args.first + c.loop-k.k) 0 < 2 ^ 8 = omega arith in
    rw c.from.ensures (read_byte _ _ c.loop-k.k _ small c.loop-k.invariant (omega (arith, c.loop-k-test.true, c.requires.0)))
