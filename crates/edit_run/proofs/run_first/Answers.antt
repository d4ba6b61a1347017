-- The pairs are gathered and linked, and the run over them is settled.
use Rattle.std.proofs.Common.{◌≡◌, ◌≤◌, ℕ, List, arith}
use lib.ListN.{length-replicate}
use Rattle.theory.proofs.Logic.ListLaws.{zeros}
use Rattle.theory.specs.Logic.Range.{first}
use Rattle.theory.proofs.Logic.RangeLaws.{first_le}
use Rattle.table.specs.Limits.{vertex_limit, edge_limit}
use Rattle.table.specs.Answers.{Clean}
use Rattle.edit_rules.specs.EditParts.{Formed}
use Rattle.edit_rules.proofs.EditPartsLaws.{formed_room}
use Rattle.edit_trace.specs.Trace.{entry_count, trace_rows}
use Rattle.edit_trace.proofs.TraceLaws.{trace_length, trace_few}
use Rattle.edit_run.specs.Gathered.{outside}
use Rattle.edit_run.specs.SettledLaws.{gathered_pairs}
use Rattle.edit_run.proofs.run_first.Goals as goal

-- no more entries than there are and may be, no more edges and vertices than there may be
record Small (n m k : ℕ) (trace : List ℕ) : Type 0 where
  pub high : k ≤ entry_count trace
  pub few : entry_count trace ≤ 4096
  pub vertices : n ≤ vertex_limit
  pub edges : m ≤ edge_limit

small : {g trace : List ℕ} {n m k : ℕ} → Formed g n m → Clean (trace_rows trace) → k ≡ first (outside trace n) 0 (entry_count trace) → Small n m k trace
small {g} {trace} {n} f clean e = record {
  high = omega (arith, e, first_le (outside trace n) 0 (entry_count trace) (omega arith));
  few = trace_few trace clean;
  vertices = omega (arith, f.vertices, f.well.vertices);
  edges = omega (arith, f.edges, f.well.edges);
}

pub gather_pairs-requires : goal.gather_pairs-requires
gather_pairs-requires c =
    let a = c.args in
    let f = c.requires.formed in
    let s = small f.0 f.1 c.requires.k_value.0 in
    let r = length-replicate {A = ℕ} 8192 0 in
    record {
      formed = (f.0, formed_room a.buffer.now a.n a.m f.0, s.high);
      trace_len = (trace_length a.trace.now f.1, s.few, s.vertices, s.edges);
      k_in_bounds = (omega (arith, r, s), omega (arith, r, s));
    }

pub overflow_add-m : goal.overflow_add-m
overflow_add-m c = omega (arith, small c.requires.formed.0 c.requires.formed.1 c.requires.k_value.0)

pub link_all-requires : goal.link_all-requires
link_all-requires c =
    let f = c.requires.formed in
    let s = small f.0 f.1 c.requires.k_value.0 in
    let r = length-replicate {A = ℕ} 8192 0 in
    let q = length-replicate {A = ℕ} 8193 0 in
    let u = length-replicate {A = ℕ} 512 0 in
    let few : c.args.k ≤ 4096 = omega (arith, s) in
    record {
      pairs = (
        gathered_pairs f.0 few c.requires.k_value.0 c.gather_pairs.ensures (omega (arith, r, c.gather_pairs.auto, s)) (omega (arith, r, c.gather_pairs.auto, s)),
        omega arith,
        s.edges,
        s.vertices,
      );
      count_in_bounds = (omega (arith, r, s), omega (arith, q, s), omega (arith, u, s));
      by_index = (zeros 8193, zeros 512);
    }

pub settle-requires : goal.settle-requires
settle-requires c =
    let f = c.requires.formed in
    let k = c.requires.k_value in
    let s = small f.0 f.1 k.0 in
    let r = length-replicate {A = ℕ} 8192 0 in
    let q = length-replicate {A = ℕ} 8193 0 in
    let u = length-replicate {A = ℕ} 512 0 in
    let few : c.args.k ≤ 4096 = omega (arith, s) in
    record {
      formed = (f.0, k.0, k.1);
      trace_len = (trace_length c.args.trace.now f.1, c.gather_pairs.ensures);
      pairs = (
        gathered_pairs f.0 few k.0 c.gather_pairs.ensures (omega (arith, r, c.gather_pairs.auto, s)) (omega (arith, r, c.gather_pairs.auto, s)),
        c.link_all.ensures,
      );
      k_in_bounds = (omega (arith, r, c.link_all.auto, s), omega (arith, q, c.link_all.auto, s), omega (arith, u, c.link_all.auto, s));
    }
