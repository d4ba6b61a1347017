-- The table's words up to its owners stay; the sources, the targets and zeros are put behind them.
use Rattle.std.proofs.Common.{refl, arith}
use lib.ListN.{length-set}
use Rattle.edit_run.specs.GatheredLaws.{edges_put}
use Rattle.edit_run.proofs.put_edges.Goals as goal

pub copy-requires : goal.copy-requires
copy-requires c = (simp length-set (omega (arith, c.requires.n_value, c.requires.top_in_bounds)), c.requires.top_in_bounds.1)

pub returns : goal.returns
returns c =
    let p = c.requires in
    let a = c.args in
    edges_put a.buffer.now a.n a.e a.top a.sources.now a.ends.now _ c.copy.new.words c.copy-2.new.words _ p.n_value.0 p.buffer_in_bounds p.n_value.3 p.top_in_bounds.0 refl
    c.copy.ensures c.copy-2.ensures c.fill.ensures
