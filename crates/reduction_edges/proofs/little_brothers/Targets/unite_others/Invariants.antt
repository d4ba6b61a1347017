use mathlib.Core.Path.{◌≡◌}
use Prim.Native.Nat.{◌%◌}
use Rattle.reduction_edges.proofs.WordsLaws.{United}
use Rattle.reduction_edges.proofs.little_brothers.Targets.unite_others.Given as goal

abbrev pub invariant-loop-w : goal.invariant-loop-w
invariant-loop-w l = (l.w % 64 ≡ 0) × United l.self.n l.self.marks.now l.self.row.now l.d l.initial.dropped l.w l.dropped
