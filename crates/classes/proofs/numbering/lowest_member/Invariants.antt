use mathlib.Core.Path.{◌≡◌}
use Prim.Native.Nat.{◌-◌, ◌≤◌}
use Rattle.theory.specs.Logic.Range.{first}
use Rattle.theory.specs.Classes.Reduction.{same_class, lowest}
use Rattle.marks.specs.Marks.{relation}
use Rattle.classes.proofs.numbering.lowest_member.Given as goal

abbrev pub invariant-loop-w : goal.invariant-loop-w
invariant-loop-w l = (l.w ≤ l.n) × (lowest l.n (relation l.n l.marks) l.v ≡ first (λ u. same_class (relation l.n l.marks) u l.v) l.w l.n)

abbrev pub decreases-loop-w : goal.decreases-loop-w
decreases-loop-w l = l.n - l.w
