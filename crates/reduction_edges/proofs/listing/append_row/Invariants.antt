use mathlib.Core.Path.{◌≡◌}
use mathlib.Core.List.{map}
use Prim.Native.Nat.{◌-◌}
use lib.ListN.{length}
use Rattle.words.specs.Words.{has}
use Rattle.order_sets.specs.MembersLaws.{Reached}
use Rattle.reduction_edges.specs.Rows.{keeps, picked, number_of, Put}
use Rattle.reduction_edges.proofs.listing.append_row.Given as goal

abbrev pub invariant-loop-d : goal.invariant-loop-d
invariant-loop-d l = Reached (has l.row) l.n l.d × (length l.ends ≡ length l.initial.ends) × Put (map (number_of l.classes) (picked l.d (keeps l.row l.dropped))) l.e l.initial.ends l.ends l.r

abbrev pub decreases-loop-d : goal.decreases-loop-d
decreases-loop-d l = l.n - l.d
