-- The flags are the game's edges and the chains the plan's links, so the search reads what it needs.
use Prim.Native.Nat.{ℕ}
use native.Mathlib.Omega.{arith}
use lib.ListN.{length-replicate}
use Rattle.table.specs.Limits.{position_limit, link_limit, pair_words}
use Rattle.table.specs.FlagsLaws.{filled, well_sized, well_inside}
use Rattle.carry_output.proofs.search.Goals as goal

pub flag_edges-requires : goal.flag_edges-requires
flag_edges-requires c = let w = c.requires.seated.well in
    record { sized = (well_sized w, well_inside w); pair_words_in_bounds = (omega (arith, length-replicate {A = ℕ} pair_words 0), filled pair_words 0) }

pub find_pairs-requires-clause-readable : goal.find_pairs-requires-clause-readable
find_pairs-requires-clause-readable c =
    let b = c.requires.seated in
    let z = b.formed.sized in record {
      links = record {
        board = b;
        firsts_long = omega (arith, c.chain_links.auto.firsts, length-replicate {A = ℕ} position_limit 0, z.positions);
        follow_long = omega (arith, c.chain_links.auto.follow, length-replicate {A = ℕ} link_limit 0, z.links);
        chains = c.chain_links.ensures;
      };
      flags = c.flag_edges.ensures.edge_flags;
    }
