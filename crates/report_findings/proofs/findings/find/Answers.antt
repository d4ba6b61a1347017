-- The reader refuses, or the memory is filled, since it is enough, and the classes are counted.
use Rattle.reduction_edges.specs.Rows.{game_by}
use Rattle.report_findings.specs.FindingsLaws.{table_fits, counted, classes_fit_lem, reported_refused, tabulated, reported_accepted}
use Rattle.report_findings.proofs.findings.find.Goals as goal

pub returns-in_default : goal.returns-in_default
returns-in_default c = reported_refused _ _ _ _ _ _ c.in_default.is c.read-verdict.ensures

pub fill_memory-filled-requires : goal.fill_memory-filled-requires
fill_memory-filled-requires c = table_fits c.requires (counted c.in-Ok.is c.read-verdict.ensures).0

pub write_totals-totals-requires-clause-tabulated : goal.write_totals-totals-requires-clause-tabulated
unfolding game_by
write_totals-totals-requires-clause-tabulated c =
    tabulated c.fill_memory-filled.ensures (counted c.in-Ok.is c.read-verdict.ensures).0

pub write_totals-totals-requires-clause-game_in_bounds : goal.write_totals-totals-requires-clause-game_in_bounds
write_totals-totals-requires-clause-game_in_bounds c =
    let w = (counted c.in-Ok.is c.read-verdict.ensures).0 in
    (classes_fit_lem _ w _ c.requires.members_fit, classes_fit_lem _ w _ c.requires.edges_fit)

pub returns : goal.returns
unfolding game_by
returns c =
    reported_accepted
    c.fill_memory-filled.ensures
    c.write_totals-totals.ensures
    _
    _
    c.in-Ok.is
    c.read-verdict.ensures
