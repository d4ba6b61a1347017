-- The chains are made, and the rows are linked along them.
use Rattle.std.proofs.Common.{arith}
use Rattle.edit_links.proofs.link_pairs.Goals as goal

pub link_rows-requires : goal.link_rows-requires
link_rows-requires c =
    let p = c.requires.n_in_bounds in
    record {
      pairs = (c.requires.pairs.0, c.requires.pairs.1, c.chain.ensures);
      n_in_bounds = (omega (arith, c.chain.auto, p), omega (arith, c.chain.auto, p), omega (arith, p), omega (arith, p));
    }
