-- After j edges flag v is 0 exactly if one of them leaves v.
use mathlib.Core.Path.{◌≡◌, ◌∙◌}
use native.Mathlib.Omega.{arith}
use Rattle.table.specs.Table.{table_edges, source_at}
use Rattle.table.specs.FlagsLaws.{cleared_none, cleared_more, source_word, source_lt, lacking_flags}
use Rattle.table.proofs.searches.clear_sources.Goals as goal

pub loop-j-init : goal.loop-j-init
loop-j-init c = cleared_none _ _ c.requires.n_in_bounds.1

pub loop-j-preserved : goal.loop-j-preserved
loop-j-preserved c = let a = c.args in
    let p = c.requires.sized in
    let l = c.loop-j in
    let e : c.from.result ≡ source_at a.game.now l.j = c.from.ensures ∙ source_word a.game.now a.n a.m p.0 l.j in
    rw e (cleared_more _ l.j l.lacking (omega (arith, e, c.from.ensures, source_lt a.game.now a.n a.m p.0 p.1 l.j c.loop-j-test.true)) l.invariant)

pub returns : goal.returns
returns c = let e : c.loop-j.j ≡ table_edges c.args.game.now = omega arith in
    rw (← c.loop-j.auto.lacking) (lacking_flags c.args.game.now c.loop-j.lacking (rw e at c.loop-j.invariant))
