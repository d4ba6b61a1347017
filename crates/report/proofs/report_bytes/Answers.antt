-- The arrays are enough for any accepted game, and its vertices and classes are few enough to print.
use Rattle.std.proofs.Common.{arith}
use Rattle.report_findings.specs.FindingsLaws.{reported_small, reported_classes}
use Rattle.report.proofs.report_bytes.Goals as goal

pub print_report-requires-clause-at_most : goal.print_report-requires-clause-at_most
print_report-requires-clause-at_most g c = reported_small c.find_from_bytes-report.ensures _ (omega arith)

pub print_report-requires-clause-classes_in_bounds : goal.print_report-requires-clause-classes_in_bounds
print_report-requires-clause-classes_in_bounds g c =
    let few = reported_classes c.find_from_bytes-report.ensures in
    (omega (arith, few), omega (arith, few))
