-- Each way out is a row of the call's table of refusals, or what the edit leaves in the second table, which the first one begins by then.
use Rattle.std.proofs.lemmas.Result.{err_from_is_err_and}
use Rattle.std.proofs.Common.{sym, ◌∙◌, length-take-le}
use native.Mathlib.Omega.{arith}
use Rattle.table.specs.Table.{table_length}
use Rattle.edit_rules.proofs.EditPartsLaws.{formed_room, formed_part}
use Rattle.edit.proofs.EditCallLaws.{passed_clean, call_fits, call_short, call_judged, call_done, lent_scanned, lent_judged}
use Rattle.edit_preview.proofs.PreviewCallLaws.{table_short, table_long, table_clean, copied_in, copied_length, copied_over}
use Rattle.edit_preview.proofs.preview_table.Goals as goal

pub judge_memory-requires : goal.judge_memory-requires
judge_memory-requires c = omega (arith, c.requires.vertices, c.requires.well.vertices)

pub returns-in_err-judge_memory : goal.returns-in_err-judge_memory
returns-in_err-judge_memory c = let p = err_from_is_err_and c.from_residual.result c.from_residual.ensures.1 in
    rw (p.1, p.2) (call_short _ _ _ _ _ _ _ _ _ c.requires c.in_err-judge_memory.field-0.0 c.in_err-judge_memory.ensures)

pub returns-then-len-size : goal.returns-then-len-size
returns-then-len-size c =
    rw c.refused.ensures
    (call_judged _ c.args.edit _ _ _ _ _ _ _ c.requires c.in_ok-judge_memory.ensures
    (record { number = 24; place = table_length c.args.n c.args.m }) (table_short c.args.game.now c.args.table.now c.requires _ c.if-len-size.true))

pub slice_bounds-scan_edges-end : goal.slice_bounds-scan_edges-end
slice_bounds-scan_edges-end c = sym (length-take-le _ _ (formed_room c.args.game.now c.args.n c.args.m c.requires))

pub scan_edges-scan-requires : goal.scan_edges-scan-requires
scan_edges-scan-requires c = rw (formed_part c.args.game.now c.args.n c.args.m c.requires) c.requires

pub judge_edit-requires : goal.judge_edit-requires
judge_edit-requires c =
    (omega (arith, c.requires.vertices, c.requires.well.vertices), omega (arith, c.requires.edges, c.requires.well.edges))

pub returns-in_err-judge_edit : goal.returns-in_err-judge_edit
returns-in_err-judge_edit c = let p = err_from_is_err_and c.from_residual-in_err-judge_edit.result c.from_residual-in_err-judge_edit.ensures.1 in
    rw (p.1, p.2)
    (call_judged _ c.args.edit _ _ _ _ _ _ _ c.requires c.in_ok-judge_memory.ensures c.in_err-judge_edit.field-0.0
    (lent_judged c.args.edit c.args.game.now _ _ c.requires c.scan_edges-scan.ensures _ c.in_err-judge_edit.ensures
    ∙ sym (table_long c.args.game.now c.args.table.now c.requires _ c.if-len-size.false)))

pub copy-requires : goal.copy-requires
copy-requires c = (omega arith, omega (arith, formed_room c.args.game.now c.args.n c.args.m c.requires))

pub apply_edit-counts-requires : goal.apply_edit-counts-requires
apply_edit-counts-requires c =
    let same = copied_in c.args.game.now c.args.table.now c.requires c.copy.ensures in
    let clean = passed_clean _ (lent_judged c.args.edit c.args.game.now _ _ c.requires c.scan_edges-scan.ensures _ c.in_ok-judge_edit.ensures) in
    let size = copied_length c.args.game.now c.args.table.now c.requires c.copy.ensures c.if-len-size.false in
    record {
      formed = rw same (c.requires, call_fits _ _ _ _ c.requires c.in_ok-judge_memory.ensures);
      copy_value = rw same (lent_scanned c.args.edit c.args.game.now _ _ c.requires c.scan_edges-scan.ensures).found;
      clean = rw (same, size) clean;
    }

pub returns : goal.returns
returns c =
    call_done _ c.args.edit _ _ _ _ _ _ _ c.requires c.in_ok-judge_memory.ensures
    (table_clean c.args.game.now c.args.table.now c.requires _ c.if-len-size.false
    (passed_clean _ (lent_judged c.args.edit c.args.game.now _ _ c.requires c.scan_edges-scan.ensures _ c.in_ok-judge_edit.ensures)))
    _ (copied_in c.args.game.now c.args.table.now c.requires c.copy.ensures)
    (copied_over c.args.game.now c.args.table.now c.requires c.copy.ensures c.args.edit c.args.source c.args.target)
    _ _ _ _ _ c.apply_edit-counts.ensures
