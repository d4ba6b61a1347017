use mathlib.Core.Path.{◌≡◌}
use mathlib.Core.List.{List}
use Prim.Native.Nat.{ℕ, ◌+◌, ◌-◌, ◌≤◌, min}
use lib.ListN.{length}
use Rattle.table.specs.Listing.{Appended}
use Rattle.edit_rules.specs.Edges.{others}
use Rattle.edit_rules.specs.EditParts.{edges_part}
use Rattle.edit_rules.proofs.SearchLaws.{edges_below}
use Rattle.edit_rules.proofs.listing.list_others.Given as goal

abbrev pub invariant-loop-j : goal.invariant-loop-j
invariant-loop-j l = (l.j ≤ l.m + 1)
    × (length l.sources ≡ length l.initial.sources)
    × (length l.ends ≡ length l.initial.ends)
    × ((S E : List ℕ) → l.m ≤ length S → l.m ≤ length E → Appended (edges_part l.table 0 l.copy) 0 S l.initial.sources E l.initial.ends l.initial.e
    → Appended (others l.s l.t (edges_below l.table (min l.j l.m))) 0 S l.sources E l.ends l.e)

abbrev pub decreases-loop-j : goal.decreases-loop-j
decreases-loop-j l = l.m + 1 - l.j
