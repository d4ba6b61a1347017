-- The fresh array has room for a flag for each pair of vertices, and all are clear.
use mathlib.Core.Path.{sym}
use Prim.Native.Nat.{ℕ}
use native.Mathlib.Nat.{le_of_eq}
use lib.ListN.{length-replicate}
use Rattle.table.specs.Limits.{pair_words}
use Rattle.table.specs.FlagsLaws.{filled}
use Rattle.table.proofs.searches.count_different.Goals as goal

pub slice_bounds-flag_edges-end : goal.slice_bounds-flag_edges-end
slice_bounds-flag_edges-end c = sym (length-replicate {A = ℕ} pair_words 0)

pub flag_edges-requires : goal.flag_edges-requires
flag_edges-requires c = record { sized = c.requires; pair_words_in_bounds = (le_of_eq (sym (length-replicate {A = ℕ} pair_words 0)), filled pair_words 0) }

pub returns : goal.returns
returns c = c.flag_edges.ensures.value
