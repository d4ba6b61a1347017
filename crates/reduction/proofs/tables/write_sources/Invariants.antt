use mathlib.Core.Path.{◌≡◌}
use Prim.Native.Nat.{◌+◌, ◌≤◌}
use lib.ListN.{length}
use Rattle.table.specs.Placing.{placed}
use Rattle.reduction.specs.Tables.{start_of, spread}
use Rattle.reduction.proofs.tables.write_sources.Given as goal

abbrev pub invariant-loop-c : goal.invariant-loop-c
invariant-loop-c l = (l.start ≡ start_of l.at l.stops l.c) × (l.start ≡ l.at + length (spread l.at l.stops l.c)) × (l.start ≤ length l.initial.output)
    × (l.output ≡ placed l.at (spread l.at l.stops l.c) l.initial.output)
