-- Invariant: the first i edges of v are drawn.
use Rattle.std.proofs.Common.{◌≡◌, arith}
use lib.Arith.{digits_lt}
use Rattle.table_seed.specs.ProgressLaws.{edges_start, edges_more}
use Rattle.table_seed.proofs.writing.write_edges.Goals as goal

pub loop-i-init : goal.loop-i-init
loop-i-init c = edges_start _ _ _ c.requires.0.degree c.requires.1 _ _

pub overflow_mul-v : goal.overflow_mul-v
overflow_mul-v c = omega (arith, digits_lt c.requires.1 c.loop-i-test.true, c.requires.0.edges)

pub overflow_add-v : goal.overflow_add-v
overflow_add-v c = omega (arith, digits_lt c.requires.1 c.loop-i-test.true, c.requires.0.edges)

pub write_edge-next-requires : goal.write_edge-next-requires
write_edge-next-requires c = let p = c.requires in
    (p.1, p.0.vertices, digits_lt c.requires.1 c.loop-i-test.true, omega (arith, p.0.fits, c.loop-i.auto.output))

pub loop-i-preserved : goal.loop-i-preserved
loop-i-preserved c = let e = c.write_edge-next.ensures in
    let p = c.requires in
    rw (e.state_value, e.output_value) (edges_more _ _ _ p.0.degree p.1 c.loop-i.i _ _ _ _ c.loop-i-test.true p.0.fits c.loop-i.invariant)

pub returns : goal.returns
returns c = let e : c.loop-i.i ≡ c.args.d = omega arith in
    rw e at c.loop-i.invariant
