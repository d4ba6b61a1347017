-- The second part's bits stand behind the first part's.
use mathlib.Core.Path.{◌≡◌}
use Prim.Native.Nat.{◌+◌, ◌-◌}
use native.Mathlib.Omega.{arith}
use Rattle.marks.specs.MarkReadingLaws.{read_join}
use Rattle.marks.proofs.reading.read_wide.Goals as goal

pub returns : goal.returns
returns c = let e : c.args.count ≡ 56 + (c.args.count - 56) = omega arith in
    rw e (read_join _ _ 56 _ _ _ (omega (arith, c.requires.0)) c.read_bits-low.ensures c.read_bits-high.ensures)
