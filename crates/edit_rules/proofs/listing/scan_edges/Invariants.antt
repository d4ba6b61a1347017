use Rattle.edit_rules.specs.EditParts.{Scanning}
use Rattle.edit_rules.proofs.listing.scan_edges.Given as goal

abbrev pub invariant-loop-j : goal.invariant-loop-j
invariant-loop-j l = Scanning l.table l.m l.s l.t l.j l.scan
