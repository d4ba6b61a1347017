-- Invariant: the scan holds before edge j.
use native.Mathlib.Omega.{arith}
use Rattle.edit_rules.proofs.ScanLaws.{scan_start, scan_both, scan_end}
use Rattle.edit_rules.proofs.listing.scan_edges.Goals as goal

pub loop-j-init : goal.loop-j-init
loop-j-init c = scan_start _ _ _ _

pub returns-then-scan-m : goal.returns-then-scan-m
returns-then-scan-m c = scan_both _ _ _ _ _ c.scan_edge-scan.ensures (omega (arith, c.loop-j-test.true)) c.if-scan.true c.if-scan-m.true

pub returns : goal.returns
returns c = let l = c.loop-j in scan_end _ _ _ _ _ l.invariant (omega arith)
