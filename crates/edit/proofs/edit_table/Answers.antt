-- Each way out is a row of the call's table of refusals, or what the edit leaves.
use Rattle.std.proofs.lemmas.Result.{err_from_is_err_and}
use Rattle.std.proofs.Common.{sym, refl, length-take-le}
use native.Mathlib.Omega.{arith}
use Rattle.edit_rules.proofs.EditPartsLaws.{formed_room, formed_part}
use Rattle.edit.proofs.EditCallLaws.{passed_clean, call_short, call_judged, call_fits, call_done, lent_scanned, lent_judged}
use Rattle.edit.proofs.edit_table.Goals as goal

pub judge_memory-requires : goal.judge_memory-requires
judge_memory-requires c = omega (arith, c.requires.vertices, c.requires.well.vertices)

pub returns-in_err-judge_memory : goal.returns-in_err-judge_memory
returns-in_err-judge_memory c = let p = err_from_is_err_and c.from_residual.result c.from_residual.ensures.1 in
    rw (p.1, p.2) (call_short _ _ _ _ _ _ _ _ _ c.requires c.in_err-judge_memory.field-0.0 c.in_err-judge_memory.ensures)

pub slice_bounds-scan_edges-end : goal.slice_bounds-scan_edges-end
slice_bounds-scan_edges-end c = omega (arith, formed_room c.args.buffer.now c.args.n c.args.m c.requires)

pub slice_bounds-scan_edges-end-2 : goal.slice_bounds-scan_edges-end-2
slice_bounds-scan_edges-end-2 c = sym (length-take-le _ _ (formed_room c.args.buffer.now c.args.n c.args.m c.requires))

pub scan_edges-scan-requires : goal.scan_edges-scan-requires
scan_edges-scan-requires c = rw (formed_part c.args.buffer.now c.args.n c.args.m c.requires) c.requires

pub judge_edit-requires : goal.judge_edit-requires
judge_edit-requires c =
    (omega (arith, c.requires.vertices, c.requires.well.vertices), omega (arith, c.requires.edges, c.requires.well.edges))

pub returns-in_err-judge_edit : goal.returns-in_err-judge_edit
returns-in_err-judge_edit c = let p = err_from_is_err_and c.from_residual-in_err-judge_edit.result c.from_residual-in_err-judge_edit.ensures.1 in
    rw (p.1, p.2)
    (call_judged _ _ _ _ _ _ _ _ _ c.requires c.in_ok-judge_memory.ensures c.in_err-judge_edit.field-0.0
    (lent_judged c.args.edit c.args.buffer.now _ _ c.requires c.scan_edges-scan.ensures _ c.in_err-judge_edit.ensures))

pub apply_edit-counts-requires : goal.apply_edit-counts-requires
apply_edit-counts-requires c = record {
  formed = (c.requires, call_fits _ _ _ _ c.requires c.in_ok-judge_memory.ensures);
  copy_value = (lent_scanned c.args.edit c.args.buffer.now _ _ c.requires c.scan_edges-scan.ensures).found;
  clean = passed_clean _ (lent_judged c.args.edit c.args.buffer.now _ _ c.requires c.scan_edges-scan.ensures _ c.in_ok-judge_edit.ensures);
}

pub returns : goal.returns
returns c =
    call_done _ _ _ _ _ _ _ _ _ c.requires c.in_ok-judge_memory.ensures
    (passed_clean _ (lent_judged c.args.edit c.args.buffer.now _ _ c.requires c.scan_edges-scan.ensures _ c.in_ok-judge_edit.ensures))
    _ refl refl _ _ _ _ _ c.apply_edit-counts.ensures
