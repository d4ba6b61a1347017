use mathlib.Core.Path.{◌≡◌}
use Prim.Native.Nat.{◌-◌, ◌≤◌}
use Rattle.order_acceptor.specs.RelationCall.{pair_by, first_failing}
use Rattle.order_acceptor.specs.RowSearch.{failing_from}
use Rattle.order_acceptor.proofs.failing.first_failing.Given as goal

abbrev pub invariant-loop-w : goal.invariant-loop-w
invariant-loop-w l = first_failing (pair_by l.mirror) l.game l.marks ≡ failing_from (pair_by l.mirror) l.game l.marks l.v l.w

abbrev pub invariant-rows : goal.invariant-rows
invariant-rows l = (l.v ≤ l.n) × (first_failing (pair_by l.mirror) l.game l.marks ≡ failing_from (pair_by l.mirror) l.game l.marks l.v 0)

abbrev pub decreases-rows : goal.decreases-rows
decreases-rows l = l.n - l.v
