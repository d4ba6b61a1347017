-- The run over pairs is settled in the buffer.
use Rattle.std.proofs.Common.{◌≤◌, ℕ, ◌∙◌, arith}
use lib.ListN.{length-replicate}
use Rattle.edit_rules.proofs.BufferLaws.{in_vertices, in_room}
use Rattle.edit_run.specs.SettledLaws.{settled_fits, settled_few, settled}
use Rattle.edit_run.proofs.settle.Goals as goal

pub run_pairs-halt-requires : goal.run_pairs-halt-requires
run_pairs-halt-requires c =
    let f = c.requires.formed.0 in
    let q = c.requires.pairs in
    let r = c.requires.k_in_bounds in
    record {
      pairs = (q.0, omega arith, q.1.linked);
      n_le_vertex_limit = (omega (arith, f.vertices, f.well.vertices), omega (arith, f.edges, f.well.edges), r.0, r.1, r.2);
      tallied = q.1.tally;
    }

pub put_edges-requires : goal.put_edges-requires
put_edges-requires c =
    let p = c.requires in
    let f = p.formed.0 in
    let fit = settled_fits c.args.buffer.now c.args.trace.now f p.formed.1 p.trace_len.1 p.pairs.1.linked c.run_pairs-halt.ensures c.keep_pairs-edges.ensures in
    let few = settled_few c.args.buffer.now c.args.trace.now f p.formed.1 p.trace_len.1 p.pairs.1.linked c.run_pairs-halt.ensures c.keep_pairs-edges.ensures in
    let r = length-replicate {A = ℕ} 8192 0 in
    let long : c.keep_pairs-edges.result ≤ 8192 = omega (arith, few, p.pairs.0.few) in
    record {
      n_value = (f.vertices ∙ in_vertices c.args.buffer.now, omega (arith, f.vertices, f.well.vertices), fit.0, fit.1, fit.2);
      top_in_bounds = (fit.3, omega (arith, long, r, c.keep_pairs-edges.auto), omega (arith, long, r, c.keep_pairs-edges.auto));
      buffer_in_bounds = in_room c.args.buffer.now f.well;
    }

pub judge_rest-verdict-requires : goal.judge_rest-verdict-requires
judge_rest-verdict-requires c =
    let p = c.requires in
    let few = settled_few c.args.buffer.now c.args.trace.now p.formed.0 p.formed.1 p.trace_len.1 p.pairs.1.linked c.run_pairs-halt.ensures c.keep_pairs-edges.ensures in
    (p.trace_len.0, few.1, few.2, p.formed.2)

pub returns : goal.returns
returns c =
    let p = c.requires in
    settled c.args.buffer.now c.args.trace.now p.formed.0 p.formed.1 p.trace_len.1 p.pairs.1.linked c.run_pairs-halt.ensures c.keep_pairs-edges.ensures
    c.put_edges.ensures c.judge_rest-verdict.ensures
