-- An edge that leads elsewhere, a copy behind the first, the first copy, or neither.
use mathlib.Core.Path.{sym, ◌∙◌}
use Rattle.edit_rules.proofs.ScanLaws.{scan_other, scan_known, scan_copy, scan_none}
use Rattle.edit_rules.proofs.listing.scan_edge.Goals as goal

pub returns-then-leads_so : goal.returns-then-leads_so
returns-then-leads_so c = let p = c.requires in
    scan_other _ _ _ _ _ p.formed.1 p.scanning (sym c.leads_so.ensures ∙ c.if-leads_so.true)

pub returns-then-scan-m : goal.returns-then-scan-m
returns-then-scan-m c = let p = c.requires in
    scan_known _ _ _ _ _ p.formed.1 p.scanning (sym c.leads_so.ensures ∙ c.if-leads_so.false) c.if-scan-m.true

pub returns-then-leads_so-2 : goal.returns-then-leads_so-2
returns-then-leads_so-2 c = let p = c.requires in
    scan_copy _ _ _ _ _ p.formed.1 p.scanning (sym c.leads_so.ensures ∙ c.if-leads_so.false) c.if-scan-m.false (sym c.leads_so-2.ensures ∙ c.if-leads_so-2.true)

pub returns : goal.returns
returns c = let p = c.requires in
    scan_none _ _ _ _ _ p.formed.1 p.scanning (sym c.leads_so.ensures ∙ c.if-leads_so.false) (sym c.leads_so-2.ensures ∙ c.if-leads_so-2.false)
