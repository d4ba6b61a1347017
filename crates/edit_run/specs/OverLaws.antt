-- The run over pairs is the run over tables: before each entry the table has the edges then, and the longest table so far the most edges.
use Rattle.std.specs.Prelude.{◌≡◌, refl, Bool, true, false, not, cond, eqb, ltb, Result}
use Rattle.std.proofs.Common.{sym, ◌∙◌, inl, inr, add-one, arith, lt-ltb, le-ltb, ltb-true, leb-true}
use Rattle.std.proofs.Math.Path.{ap, ap₂, subst}
use Rattle.std.proofs.Math.Bool.{So}
use Rattle.table.specs.declared.Refusal.{Refusal}
use Rattle.table.specs.declared.NoCounts.{NoCounts}
use mathlib.Core.List.{List, [], ◌∷◌}
use Prim.Native.Nat.{ℕ, zero, suc, ◌+◌, ◌≤◌, ◌<◌, max}
use Rattle.std.proofs.Math.ListN.{length}
use Rattle.theory.specs.Logic.Bools.{◌or◌, bit}
use Rattle.theory.proofs.Logic.BoolsLaws.{So_ext, or_false, or_out}
use Rattle.theory.specs.Logic.Range.{any_below, count, first, tabulate}
use Rattle.theory.proofs.Logic.RangeLaws.{first_passes}
use Rattle.theory.proofs.Logic.ListLaws.{tabulate_ext}
use Rattle.theory.proofs.Plans.LinkLaws.{pair_is_lem}
use Rattle.table.specs.Table.{table_edges, source_at, target_at, table_length, game_of}
use Rattle.table.specs.Answers.{Row, refused, judge, Clean}
use Rattle.table.specs.Acceptance.{acceptance_answer}
use Rattle.table.specs.Reading.{lacks_edge}
use Rattle.table.specs.WellFormed.{WellFormed}
use Rattle.edit_rules.specs.Edges.{edges_in, with_edges, others, edited_edges, edited, edit_rows}
use Rattle.edit_rules.proofs.EdgesLaws.{with_vertices, with_edges_lem, length_with, edges_with, with_linked}
use Rattle.edit_rules.proofs.ListedPartLaws.{with_own}
use Rattle.edit_rules.proofs.EditedLaws.{edited_well}
use Rattle.edit_rules.specs.EditParts.{Formed, edit_facts}
use Rattle.edit_rules.proofs.JudgeLaws.{facts_rows, source_outside, target_outside}
use Rattle.edit_rules.specs.declared.Edit.{Edit}
use Rattle.edit_rules.specs.declared.Edit.TheVariants.{Arrival, Leaving}
use Rattle.edit_trace.specs.Trace.{entry_count, entry_at, entries_in, entries_from, entries_of}
use Rattle.edit_trace.proofs.TraceLaws.{entries_all, entries_next, entries_none}
use Rattle.edit_trace.specs.Run.{toggle, toggled, entry_rows, run_from, run_over}
use Rattle.edit_trace.proofs.RunLaws.{toggle_is, run_next, run_stops, run_ends}
use Rattle.edit_run.specs.Gathered.{outside, Gathered}
use Rattle.edit_run.specs.Turned.{leaving, pair_at, edges_after}
use Rattle.edit_run.specs.TurnedLaws.{leaving_tabulate, leaving_left, linked_counted, toggled_turned}
use Rattle.edit_run.specs.Tally.{facts_at, most_after, Halted}
use Rattle.edit_run.specs.declared.Halt.{Halt}

-- ---- another edge of the source

not_not : (b : Bool) → not (not b) ≡ b
not_not true = refl
not_not false = refl

or_true : (b : Bool) → (b or true) ≡ true
unfolding ◌or◌
or_true true = refl
or_true false = refl

any_counted : (k : ℕ) (p : ℕ → Bool) → any_below k p ≡ ltb 0 (count k p)
unfolding any_below count ◌or◌ bit
any_counted zero p = refl
any_counted (suc k) p = go (p k) (any_counted k p)
  where
    go : (b : Bool) → any_below k p ≡ ltb 0 (count k p) → (any_below k p or b) ≡ ltb 0 (count k p + bit b)
    go true h = or_true (any_below k p) ∙ sym (lt-ltb 0 (count k p + 1) (omega arith))
    go false h = let q : count k p + 0 ≡ count k p = omega arith in rw q (or_false (any_below k p) ∙ h)

lacks_counted : (h : List ℕ) (v : ℕ) → not (lacks_edge h v) ≡ ltb 0 (leaving v (edges_in h))
unfolding lacks_edge edges_in
lacks_counted h v =
    not_not (any_below (table_edges h) (λ j. eqb (source_at h j) v)) ∙ any_counted (table_edges h) (λ j. eqb (source_at h j) v)
    ∙ ap (ltb 0) (sym (leaving_tabulate v (table_edges h) (λ j. (source_at h j, target_at h j))))

stays_counted : (g : List ℕ) (es : List (ℕ × ℕ)) (s t : ℕ)
    → ltb (entries_of s t es) (leaving s es) ≡ not (lacks_edge (edited Leaving (with_edges g es) s t) s)
unfolding edited edited_edges
stays_counted g es s t =
    sym (lacks_counted (with_edges (with_edges g es) (others s t (edges_in (with_edges g es)))) s
    ∙ ap (λ (l : List (ℕ × ℕ)). ltb 0 (leaving s l)) (edges_with (with_edges g es) (others s t (edges_in (with_edges g es))) ∙ ap (others s t) (edges_with g es))
    ∙ So_ext
    (λ x. lt-ltb (entries_of s t es) (leaving s es) (omega (arith, ltb-true 0 (leaving s (others s t es)) x, leaving_left s t es)))
    (λ x. lt-ltb 0 (leaving s (others s t es)) (omega (arith, ltb-true (entries_of s t es) (leaving s es) x, leaving_left s t es))))

-- ---- the run

module _ (g trace : List ℕ) (n m size : ℕ) (f : Formed g n m) (k : ℕ) (few : k ≤ entry_count trace) (S T : List ℕ) (pairs : Gathered g trace m k S T) where
  -- the table before entry i
  abbrev pub table_at : ℕ → List ℕ
  table_at i = with_edges g (edges_after S T m i)

  start_edges : edges_after S T m 0 ≡ edges_in g
  unfolding edges_after edges_in
  start_edges =
      tabulate_ext {A = ℕ × ℕ} m (pair_at S T) (λ x. (source_at g x, target_at g x)) (λ x h. pair_is_lem (pairs.edge x h).0 (pairs.edge x h).1)
      ∙ ap (λ (z : ℕ). tabulate {A = ℕ × ℕ} z (λ x. (source_at g x, target_at g x))) f.edges

  entry_is : (i : ℕ) → i < k → entry_at trace i ≡ pair_at S T (m + i)
  entry_is i h = sym (pair_is_lem (pairs.entry i h).0 (pairs.entry i h).1)

  -- an entry's rows by the edges before it are those of the table
  pub rows_are : (es : List (ℕ × ℕ)) (e : ℕ × ℕ) → WellFormed (with_edges g es)
      → let c = entries_of e.0 e.1 es in
      edit_facts (cond (ltb 0 c) Leaving Arrival) n (length es) size e.0 e.1 (ltb 0 c) (ltb c (leaving e.0 es)) ≡ entry_rows (with_edges g es) size e
  rows_are es e w =
      let G = with_edges g es in
      let c = entries_of e.0 e.1 es in
      let formed : Formed G n (length es) = record { well = w; vertices = f.vertices ∙ sym (with_vertices g es); edges = sym (with_edges_lem g es) } in
      let there : ltb 0 c ≡ (game_of G).edge e.0 e.1 = sym (with_linked g es e.0 e.1 ∙ linked_counted e.0 e.1 es) in
      facts_rows formed size e.0 e.1 there (stays_counted g es e.0 e.1) (cond (ltb 0 c) Leaving Arrival)
      ∙ ap (λ (d : Edit). edit_rows d G size e.0 e.1) (toggle_is G e there)

  -- the rest of the run from entry i on
  pub running : (i : ℕ) → i ≤ k → ((j : ℕ) → j < i → Clean (facts_at S T m n size j))
      → (run_over size (entries_in trace) g ≡ run_from size (entries_from trace i) (table_at i) (table_length n (most_after S T m i)) i) × WellFormed (table_at i)
  unfolding most_after
  running zero l passed =
      let own : table_at 0 ≡ g = ap (with_edges g) start_edges ∙ with_own g f.well.size in
      let longest : length g ≡ table_length n m = f.well.size ∙ rw (f.vertices, f.edges) in (
        ap (λ (es : List (ℕ × ℕ)). run_over size es g) (entries_all trace)
            ∙ ap₂ (λ (t : List ℕ) (z : ℕ). run_from size (entries_from trace 0) t z 0) (sym own) longest,
        subst WellFormed (sym own) f.well,
      )
  running (suc i) l passed =
      let (q, w) = running i (omega arith) (λ j h. passed j (omega arith)) in
      let es = edges_after S T m i in
      let e = pair_at S T (m + i) in
      let L = table_length n (most_after S T m i) in
      let clean : Clean (entry_rows (table_at i) size e) = subst Clean (rows_are es e w) (unfold facts_at in passed i (omega arith)) in
      let new : toggled (table_at i) e ≡ table_at (suc i) = toggled_turned es e g ∙ (unfold edges_after in refl) in
      let long : max L (length (toggled (table_at i) e)) ≡ table_length n (max (most_after S T m i) (length (edges_after S T m (suc i)))) =
      ap (λ (t : List ℕ). max L (length t)) new ∙ (rw (length_with g (edges_after S T m (suc i)), ← f.vertices) (omega arith)) in (
        q ∙ ap (λ (r : List (ℕ × ℕ)). run_from size r (table_at i) L i)
            (entries_next trace i (omega arith) ∙ ap (λ (d : ℕ × ℕ). d ∷ entries_from trace (i + 1)) (entry_is i (omega arith)))
            ∙ run_next size e (entries_from trace (i + 1)) (table_at i) L i clean
            ∙ ap₂ (λ (t : List ℕ) (z : ℕ). run_from size (entries_from trace (i + 1)) t z (i + 1)) new long
            ∙ ap (λ (j : ℕ). run_from size (entries_from trace j) (table_at (suc i)) (table_length n (max (most_after S T m i) (length (edges_after S T m (suc i))))) j) (add-one i),
        subst WellFormed new (edited_well (table_at i) size e.0 e.1 w (toggle (table_at i) e) clean),
      )

  -- ---- it is over

  module _ (beyond : first (outside trace n) 0 (entry_count trace) ≡ k) {r : Halt} {copies : List ℕ} (halted : Halted S T m (m + k) n size r copies) where
    abbrev D : ℕ
    D = r.done

    inside : D ≤ k
    inside = omega (arith, halted.high)

    abbrev L : ℕ
    L = table_length n (most_after S T m D)

    rest : run_over size (entries_in trace) g ≡ run_from size (entries_from trace D) (table_at D) L D
    rest = (running D inside halted.passed).0

    pub last_well : WellFormed (table_at D)
    last_well = (running D inside halted.passed).1

    -- the run ends so, with these rows
    pub record Ended (v : Result NoCounts Refusal) : Type 0 where
      pub rows : List Row
      pub run : run_over size (entries_in trace) g ≡ record { table = table_at D; longest = L; done = D; stop = rows }
      pub verdict : acceptance_answer v ≡ judge rows []

    -- at an entry that is refused
    pub ended_stop : D < k → Ended r.verdict
    ended_stop l =
        let e = pair_at S T (m + D) in
        let (p, k', stops) = halted.refuses (omega arith) in
        let says : acceptance_answer r.verdict ≡ judge (entry_rows (table_at D) size e) [] =
        halted.verdict ∙ rw (lt-ltb (m + D) (m + k) (omega arith)) (ap (λ (rs : List Row). judge rs []) (unfold facts_at in rows_are (edges_after S T m D) e last_well)) in
        record {
          rows = entry_rows (table_at D) size e;
          run =
              rest ∙ ap (λ (es : List (ℕ × ℕ)). run_from size es (table_at D) L D)
              (entries_next trace D (omega arith) ∙ ap (λ (d : ℕ × ℕ). d ∷ entries_from trace (D + 1)) (entry_is D l))
              ∙ run_stops size e (entries_from trace (D + 1)) (table_at D) L D (sym says ∙ stops);
          verdict = says;
        }

    -- behind the last entry
    pub ended_all : entry_count trace ≤ D → Ended r.verdict
    unfolding judge
    ended_all l = record {
      rows = [];
      run = rest ∙ ap (λ (es : List (ℕ × ℕ)). run_from size es (table_at D) L D) (entries_none trace D l) ∙ run_ends size (table_at D) L D;
      verdict = halted.verdict ∙ rw (le-ltb (m + D) (m + k) (omega arith));
    }

    -- at an entry with an end not below n
    pub ended_outside : k ≤ D → D < entry_count trace → (v : Result NoCounts Refusal) → acceptance_answer v ≡ refused 37 (entry_at trace D).0 → Ended v
    ended_outside h l v a =
        let e = entry_at trace D in
        let q : D ≡ k = omega (arith, inside) in
        let out : So (outside trace n D) = rw (q, ← beyond) (first_passes (outside trace n) 0 (entry_count trace) (omega arith) (omega arith)) in
        let says : refused 37 e.0 ≡ judge (entry_rows (table_at D) size e) [] =
        outside_rows out ∙ ap (λ (rs : List Row). judge rs []) (rows_are (edges_after S T m D) e last_well) in
        record {
          rows = entry_rows (table_at D) size e;
          run =
              rest ∙ ap (λ (es : List (ℕ × ℕ)). run_from size es (table_at D) L D) (entries_next trace D l)
              ∙ run_stops size e (entries_from trace (D + 1)) (table_at D) L D (sym says);
          verdict = a ∙ says;
        }
      where
        outside_rows : So (outside trace n D)
            → let e = entry_at trace D in
            let es = edges_after S T m D in
            let c = entries_of e.0 e.1 es in
            refused 37 e.0 ≡ judge (edit_facts (cond (ltb 0 c) Leaving Arrival) n (length es) size e.0 e.1 (ltb 0 c) (ltb c (leaving e.0 es))) []
        outside_rows o = elim (or_out o) [
          | inl x ↦ source_outside n (length (edges_after S T m D)) size _ _ _ _ _ (leb-true n _ x)
          | inr x ↦ target_outside n (length (edges_after S T m D)) size _ _ _ _ _ (leb-true n _ x)
        ]
