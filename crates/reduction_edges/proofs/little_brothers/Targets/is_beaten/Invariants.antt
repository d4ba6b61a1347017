use mathlib.Core.Path.{◌≡◌}
use mathlib.Core.Bool.{false}
use Prim.Native.Nat.{ℕ, ◌%◌, ◌<◌}
use Rattle.theory.specs.Logic.Bools.{◌&◌}
use Rattle.words.specs.Words.{has}
use Rattle.reduction_edges.specs.LittleBrothers.{below_other}
use Rattle.reduction_edges.proofs.little_brothers.Targets.is_beaten.Given as goal

abbrev pub invariant-loop-w : goal.invariant-loop-w
invariant-loop-w l = (l.w % 64 ≡ 0) × ((x : ℕ) → x < l.self.n → x < l.w → has l.self.row.now x & below_other l.self.n l.self.marks.now l.d x ≡ false)
