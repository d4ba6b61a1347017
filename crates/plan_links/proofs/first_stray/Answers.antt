-- The flags are the game's edges.
use Prim.Native.Nat.{ℕ}
use mathlib.Core.Path.{sym}
use native.Mathlib.Nat.{le_of_eq}
use lib.ListN.{length-replicate}
use Rattle.table.specs.Limits.{pair_words}
use Rattle.table.specs.FlagsLaws.{filled, well_sized, well_inside}
use Rattle.plan_links.proofs.first_stray.Goals as goal

pub flag_edges-requires : goal.flag_edges-requires
flag_edges-requires c = let w = c.requires.0 in
    record { sized = (well_sized w, well_inside w); pair_words_in_bounds = (le_of_eq (sym (length-replicate {A = ℕ} pair_words 0)), filled pair_words 0) }

pub first_straying-requires : goal.first_straying-requires
first_straying-requires c = record { game = c.requires.0; formed = c.requires.1; flags = c.flag_edges.ensures.edge_flags }

pub returns : goal.returns
returns c = c.first_straying.ensures
