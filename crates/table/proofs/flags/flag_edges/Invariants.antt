use mathlib.Core.Path.{◌≡◌}
use Prim.Native.Nat.{◌≤◌}
use Rattle.table.specs.Flags.{Flagged, different_below}
use Rattle.table.proofs.flags.flag_edges.Given as goal

abbrev pub invariant-loop-j : goal.invariant-loop-j
invariant-loop-j l = (l.different ≤ l.j) × (l.different ≡ different_below l.game l.j) × Flagged l.game l.j l.flags
