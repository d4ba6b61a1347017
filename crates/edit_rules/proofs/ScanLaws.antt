-- Laws of a scan for the edges from s to t: it starts, takes an edge, and ends once both are found or behind the last edge.
use Rattle.std.specs.Prelude.{◌≡◌, Bool, true, false, cond, List, ℕ, ◌+◌, ◌≤◌, ◌<◌, ltb}
use Rattle.std.proofs.Math.Path.{refl}
use Rattle.std.proofs.Common.{sym, ap, ◌∙◌, arith, lt-ltb, le-ltb, ltb-false}
use Rattle.std.proofs.Math.Bool.{So}
use Rattle.theory.proofs.Logic.BoolsLaws.{clash, So_not, not_out, and_out}
use Rattle.theory.specs.Logic.Range.{any_below, first}
use Rattle.theory.proofs.Logic.RangeLaws.{any_in, any_out, any_same, first_step, first_hit, first_end_lem}
use Rattle.edit_rules.specs.EditParts.{leads, Scanned, Scanning}
use Rattle.edit_rules.specs.declared.Scan.{Scan}

module _ (g : List ℕ) (m s t : ℕ) where
  pub scan_start : Scanning g m s t 0 (record { copy = m; another = false })
  unfolding any_below
  scan_start = record { inside = omega arith; found = rw (le-ltb m m (omega arith)); other = refl }

  -- ---- an edge is taken in

  module _ (j : ℕ) {scan : Scan} (below : j < m) (sc : Scanning g m s t j scan) where
    -- an edge that leads elsewhere is no copy
    no_copy : So (leads g s t false j) → leads g s t true j ≡ false
    unfolding leads
    no_copy x = So_not (λ y. clash (and_out y).1 (not_out (and_out x).1))

    passed : leads g s t true j ≡ false
        → cond (ltb scan.copy m) scan.copy (first (leads g s t true) (j + 1) m) ≡ first (leads g s t true) 0 m
    passed h = ap (λ (k : ℕ). cond (ltb scan.copy m) scan.copy k) (sym (first_step (leads g s t true) j m below h)) ∙ sc.found

    pub scan_other : So (leads g s t false j) → Scanning g m s t (j + 1) (record { copy = scan.copy; another = true })
    scan_other x = record {
      inside = sc.inside;
      found = passed (no_copy x);
      other = sym (any_in (j + 1) (leads g s t false) j (omega arith) x);
    }

    module _ (miss : leads g s t false j ≡ false) where
      other_same : scan.another ≡ any_below (j + 1) (leads g s t false)
      other_same = sc.other ∙ sym (any_same j (leads g s t false) miss)

      pub scan_known : scan.copy < m → Scanning g m s t (j + 1) scan
      scan_known h =
          let e = lt-ltb scan.copy m h in
          record { inside = sc.inside; found = rw e (rw e at sc.found); other = other_same }

      pub scan_copy : m ≤ scan.copy → So (leads g s t true j) → Scanning g m s t (j + 1) (record { copy = j; another = scan.another })
      scan_copy h x = record {
        inside = omega arith;
        found = rw (lt-ltb j m below) (sym (first_hit (leads g s t true) j m below x) ∙ (rw (le-ltb scan.copy m h) at sc.found));
        other = other_same;
      }

      pub scan_none : leads g s t true j ≡ false → Scanning g m s t (j + 1) scan
      scan_none h = record { inside = sc.inside; found = passed h; other = other_same }

  -- ---- it ends

  module _ (j : ℕ) {scan : Scan} (sc : Scanning g m s t j scan) where
    pub scan_both : j ≤ m → So scan.another → scan.copy < m → Scanned g m s t scan
    scan_both l x h =
        let (i, k, y) = any_out {n = j} {p = leads g s t false} (sym sc.other ∙ x) in
        record { found = rw (lt-ltb scan.copy m h) at sc.found; other = x ∙ sym (any_in m (leads g s t false) i (omega arith) y) }

    pub scan_end : j ≡ m → Scanned g m s t scan
    scan_end e = record { found = go (ltb scan.copy m) refl; other = rw e at sc.other }
      where
        go : (b : Bool) → ltb scan.copy m ≡ b → scan.copy ≡ first (leads g s t true) 0 m
        go true h = rw h at sc.found
        go false h =
            let q : scan.copy ≡ j = omega (arith, sc.inside, ltb-false scan.copy m h) in
            q ∙ sym (first_end_lem (leads g s t true) j m (omega arith)) ∙ (rw h at sc.found)
