-- The last byte is shifted so that only unused bits are left.
use mathlib.Core.Path.{sym}
use Prim.Native.Nat.{◌/◌}
use native.Mathlib.Omega.{arith}
use Rattle.marks.specs.MarksLaws.{unused_none, unused_digits}
use Rattle.marks.proofs.packed.has_unused.Goals as goal

pub returns-then-size-eq0 : goal.returns-then-size-eq0
returns-then-size-eq0 c = let a = c.args in sym (unused_none a.marks.now a.size c.if-size-eq0.true)

pub returns : goal.returns
returns c = let a = c.args in
    unused_digits a.marks.now a.size c.if-size-eq0.false (omega (arith, c.shared_slice_known-1.given (a.size / 8)))
