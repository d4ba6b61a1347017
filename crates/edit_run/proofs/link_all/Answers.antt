-- The links, and the counts of their places and of the sources.
use Rattle.std.proofs.Common.{ℕ, arith}
use lib.ListN.{length-replicate}
use Rattle.theory.proofs.Logic.ListLaws.{zeros}
use Rattle.edit_run.specs.TallyLaws.{tallied_start, link_column, source_column}
use Rattle.edit_run.proofs.link_all.Goals as goal

pub link_pairs-requires : goal.link_pairs-requires
link_pairs-requires c =
    let p = c.requires.pairs in
    let a = length-replicate {A = ℕ} 512 0 in
    let b = length-replicate {A = ℕ} 8192 0 in
    record {
      pairs = (p.0, p.1, zeros 512);
      n_in_bounds = (omega (arith, a, p), omega (arith, b, p.0.few), omega (arith, a, p), c.requires.count_in_bounds.0);
    }

pub count_sources-requires : goal.count_sources-requires
count_sources-requires c =
    let p = c.requires.pairs in
    let q = c.requires.count_in_bounds in
    record {
      column = link_column _ _ _ _ p.1 _ c.link_pairs.ensures p.2 (omega (arith, c.link_pairs.auto, q));
      n_in_bounds = omega (arith, q);
      by_index = c.requires.by_index.0;
    }

pub count_sources-requires-2 : goal.count_sources-requires-2
count_sources-requires-2 c =
    let p = c.requires.pairs in
    record {
      column = source_column p.0 p.1 p.2;
      n_in_bounds = omega (arith, c.requires.count_in_bounds);
      by_index = c.requires.by_index.1;
    }

pub returns : goal.returns
returns c = record {
  linked = c.link_pairs.ensures;
  tally = tallied_start _ _ _ _ c.requires.pairs.1 _ c.link_pairs.ensures _ _ c.count_sources.ensures c.count_sources-2.ensures;
}
