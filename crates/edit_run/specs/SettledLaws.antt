-- What a run over pairs leaves in the buffer is what the run over tables does.
use Rattle.std.specs.Prelude.{◌≡◌, List, ◌∷◌, ◌++◌, Result}
use Rattle.std.proofs.Common.{sym, ap, ap₂, ◌∙◌, subst, leb-false}
use Rattle.table.specs.declared.Refusal.{Refusal}
use Rattle.table.specs.declared.NoCounts.{NoCounts}
use Prim.Native.Nat.{ℕ, zero, suc, ◌+◌, ◌-◌, ◌*◌, ◌≤◌, ◌<◌, max}
use Rattle.std.proofs.Math.Decide.{dec_lt, ℕ_discrete}
use native.Mathlib.Omega.{arith}
use Rattle.std.proofs.Math.ListN.{length}
use Rattle.theory.proofs.Logic.BoolsLaws.{or_fails}
use Rattle.theory.specs.Logic.Range.{first, tabulate}
use Rattle.theory.proofs.Logic.RangeLaws.{first_le, first_before}
use Rattle.theory.proofs.Logic.ListLaws.{length_tabulate, tabulate_ext}
use Rattle.table.specs.Limits.{edge_limit}
use Rattle.table.specs.Table.{vertex_count, priority_at, owner_at, table_length, table_in}
use Rattle.table.specs.TableLaws.{in_word}
use Rattle.table.specs.Answers.{Clean, written}
use Rattle.table.specs.Listing.{Appended}
use Rattle.table.specs.ListingLaws.{listed_sources, listed_targets}
use Rattle.edit_rules.specs.Edges.{with_edges}
use Rattle.edit_rules.proofs.EdgesLaws.{with_vertices, with_edges_lem, length_with}
use Rattle.edit_rules.proofs.EditPartsLaws.{formed_room}
use Rattle.edit_rules.proofs.ListedPartLaws.{head, with_parts}
use Rattle.edit_rules.proofs.BufferLaws.{in_vertices}
use Rattle.edit_rules.specs.EditParts.{Formed}
use Rattle.edit_links.specs.Links.{Pairs, Linked}
use Rattle.edit_trace.proofs.PaddedLaws.{padded_in}
use Rattle.edit_run.specs.RunResult.{RunResult}
use Rattle.edit_trace.specs.Trace.{entry_count, entries_of}
use Rattle.edit_trace.specs.Run.{padded}
use Rattle.edit_run.specs.Gathered.{outside, Gathered, edge_words}
use Rattle.edit_run.specs.Turned.{turned, pair_at, edges_after, kept_pairs}
use Rattle.edit_run.specs.TurnedLaws.{length_turned}
use Rattle.edit_run.specs.Tally.{facts_at, most_after, Halted, RestJudged}
use Rattle.edit_run.specs.SurvivorLaws.{edges_survive}
use Rattle.edit_run.specs.KeptLaws.{kept_few}
use Rattle.edit_run.specs.OverLaws.{last_well, Ended, ended_stop, ended_all, ended_outside}
use Rattle.edit_run.specs.declared.Halt.{Halt}
use Rattle.edit_run.specs.EnterLaws.{stepped_le, stepped_less, facts_room}

-- the pairs are of vertices
pub gathered_pairs : {g trace : List ℕ} {n m k : ℕ} {S T : List ℕ} → Formed g n m → k ≤ 4096 → k ≡ first (outside trace n) 0 (entry_count trace)
    → Gathered g trace m k S T → m + k ≤ length S → m + k ≤ length T → Pairs S T (m + k) n
gathered_pairs {g} {trace} {n} {m} {k} {S} {T} f few e pairs hs ht = record {
  few = omega (arith, f.edges, f.well.edges);
  sources = hs;
  targets = ht;
  source = λ x h. elim (dec_lt x m) [
    | yes l ↦ omega (arith, (pairs.edge x l).0, f.well.sources x (rw f.edges at l), f.vertices)
    | no d ↦ (let q : x ≡ m + (x - m) = omega arith in
        let l : x - m < k = omega arith in
        rw q (omega (arith, (pairs.entry (x - m) l).0, leb-false n _ ((or_fails _ _).0 (first_before (outside trace n) 0 (entry_count trace) (x - m) (omega arith) (omega arith))).0)))
  ];
  target = λ x h. elim (dec_lt x m) [
    | yes l ↦ omega (arith, (pairs.edge x l).1, f.well.targets x (rw f.edges at l), f.vertices)
    | no d ↦ (let q : x ≡ m + (x - m) = omega arith in
        let l : x - m < k = omega arith in
        rw q (omega (arith, (pairs.entry (x - m) l).1, leb-false n _ ((or_fails _ _).0 (first_before (outside trace n) 0 (entry_count trace) (x - m) (omega arith) (omega arith))).1)))
  ];
}

-- ---- the most edges fit

module _ (S T : List ℕ) (m n size : ℕ) (few : m ≤ edge_limit) (room : table_length n m ≤ size) where
  pub record Fits (i : ℕ) : Type 0 where
    pub least : length (edges_after S T m i) ≤ most_after S T m i
    pub below : most_after S T m i ≤ edge_limit
    pub words : table_length n (most_after S T m i) ≤ size

  pub most_fits : (i : ℕ) → ((j : ℕ) → j < i → Clean (facts_at S T m n size j)) → Fits i
  unfolding most_after edges_after facts_at
  most_fits zero passed = record { least = omega (arith, length_tabulate {A = ℕ × ℕ} m (pair_at S T)); below = few; words = room }
  most_fits (suc i) passed =
      let f = most_fits i (λ j h. passed j (omega arith)) in
      let es = edges_after S T m i in
      let e = pair_at S T (m + i) in
      let k = entries_of e.0 e.1 es in
      let is = length_turned es e in
      let one : length (turned es e) ≤ max (most_after S T m i) (length (turned es e)) = omega arith in
      elim (ℕ_discrete k 0) [
        | yes z ↦ (
            let r = facts_room n (length es) size e.0 e.1 k _ z (passed i (omega arith)) in
            let le = stepped_le (length es) k in
            record { least = one; below = omega (arith, is, le, r.0, f.below); words = omega (arith, is, le, r.1, f.words) })
        | no d ↦ (
            let le = stepped_less (length es) k d in
            record { least = one; below = omega (arith, is, le, f.least, f.below); words = omega (arith, is, le, f.least, f.words) })
      ]

-- ---- the words

-- the words before the edges are the table's
head_in : (buffer : List ℕ) (e : ℕ) → head buffer e ≡ head (table_in buffer) e
head_in buffer e =
    rw (in_vertices buffer)
    (ap (λ (l : List ℕ). vertex_count buffer ∷ e ∷ l)
    (ap₂ ◌++◌
    (tabulate_ext (vertex_count buffer) (priority_at buffer) (priority_at (table_in buffer)) (λ v h. sym (in_word buffer (2 + v) (omega arith))))
    (tabulate_ext (vertex_count buffer) (owner_at buffer) (owner_at (table_in buffer)) (λ v h. rw (in_vertices buffer) (sym (in_word buffer (2 + vertex_count buffer + v) (omega arith)))))))

pub words_padded : (buffer : List ℕ) (n e top : ℕ) (es : List (ℕ × ℕ)) {k₀ kept e₀ ends : List ℕ} → n ≡ vertex_count (table_in buffer)
    → Appended es 0 k₀ kept e₀ ends e → edge_words buffer e kept ends top ≡ padded (with_edges (table_in buffer) es) (table_length n top)
unfolding padded
words_padded buffer n e top es v listed =
    let g = table_in buffer in
    let q : e ≡ length es = listed.count ∙ omega arith in
    let z : table_length n top - length (with_edges g es) ≡ 2 * (top - e) = omega (arith, length_with g es) in
    ap₂ ◌++◌
    (ap₂ ◌++◌ (ap₂ ◌++◌ (head_in buffer e ∙ ap (λ (k : ℕ). head g k) q) (listed_sources listed)) (listed_targets listed) ∙ sym (with_parts g es))
    (ap (λ (k : ℕ). tabulate {A = ℕ} k (λ i. 0)) (sym z))

-- ---- the run is settled

module _ (buffer trace : List ℕ) {n m k : ℕ} (f : Formed (table_in buffer) n m) (beyond : k ≡ first (outside trace n) 0 (entry_count trace)) {S T : List ℕ}
    (pairs : Gathered (table_in buffer) trace m k S T) {links : List ℕ} (linked : Linked S T m (m + k) links)
    {r : Halt} {copies : List ℕ} (halted : Halted S T m (m + k) n (length buffer) r copies)
    {k₀ kept e₀ ends : List ℕ} {e : ℕ} (listed : Appended (kept_pairs S T copies links (m + r.done) (m + r.done)) 0 k₀ kept e₀ ends e) where
  abbrev g : List ℕ
  g = table_in buffer

  abbrev es : List (ℕ × ℕ)
  es = edges_after S T m r.done

  few : k ≤ entry_count trace
  few = omega (arith, first_le (outside trace n) 0 (entry_count trace) (omega arith))

  es_is : kept_pairs S T copies links (m + r.done) (m + r.done) ≡ es
  es_is = sym (edges_survive S T m (m + k) (omega arith) links linked copies r.done halted.high halted.found halted.zeros r.done (omega arith))

  listed_is : Appended es 0 k₀ kept e₀ ends e
  listed_is = subst (λ (l : List (ℕ × ℕ)). Appended l 0 k₀ kept e₀ ends e) es_is listed

  e_is : e ≡ length es
  e_is = listed_is.count ∙ omega arith

  fits : Fits S T m n (length buffer) (omega (arith, f.edges, f.well.edges)) (formed_room buffer n m f) r.done
  fits = most_fits S T m n (length buffer) (omega (arith, f.edges, f.well.edges)) (formed_room buffer n m f) r.done halted.passed

  pub settled_fits : (e ≤ edge_limit) × (e ≤ r.most) × (r.most ≤ edge_limit) × (table_length n r.most ≤ length buffer)
  settled_fits = (
    omega (arith, e_is, halted.edges, halted.few),
    omega (arith, e_is, fits.least, halted.most),
    omega (arith, fits.below, halted.most),
    omega (arith, fits.words, halted.most),
  )

  pub settled_few : (e ≤ m + r.done) × (r.done ≤ k) × (k ≤ entry_count trace)
  settled_few = (omega (arith, listed.count, kept_few S T copies links (m + r.done) (m + r.done)), omega (arith, halted.high), few)

  ended : {v : Result NoCounts Refusal} → RestJudged trace k r.done r.verdict v → Ended g trace n m (length buffer) f k few S T pairs (sym beyond) halted v
  ended {v} rest = elim (dec_lt r.done k) [
    | yes l ↦ subst (λ (a : Result NoCounts Refusal). Ended g trace n m (length buffer) f k few S T pairs (sym beyond) halted a) (sym (rest.stopped l))
        (ended_stop g trace n m (length buffer) f k few S T pairs (sym beyond) halted l)
    | no d ↦ elim (dec_lt r.done (entry_count trace)) [
      | yes l ↦ ended_outside g trace n m (length buffer) f k few S T pairs (sym beyond) halted (omega arith) l v (rest.outside (omega arith) l)
      | no d₁ ↦ subst (λ (a : Result NoCounts Refusal). Ended g trace n m (length buffer) f k few S T pairs (sym beyond) halted a) (sym (rest.over (omega arith)))
          (ended_all g trace n m (length buffer) f k few S T pairs (sym beyond) halted (omega arith))
    ]
  ]

  pub settled : {buffer' : List ℕ} {v : Result NoCounts Refusal} → buffer' ≡ written (edge_words buffer e kept ends r.most) buffer → RestJudged trace k r.done r.verdict v
      → RunResult buffer trace n (record { verdict = v; done = r.done; edges = e }) buffer'
  settled {buffer'} {v} put rest =
      let end = ended rest in
      let q = end.run in
      let G = with_edges g es in
      let w = last_well g trace n m (length buffer) f k few S T pairs (sym beyond) halted in
      let words : buffer' ≡ written (padded G (table_length n (most_after S T m r.done))) buffer =
      put ∙ ap (λ (ws : List ℕ). written ws buffer) (rw (← halted.most) (words_padded buffer n e r.most es f.vertices listed_is)) in
      record {
        verdict = rw q end.verdict;
        done = rw q;
        formed = rw q (record { well = w; vertices = f.vertices ∙ sym (with_vertices g es); edges = e_is ∙ sym (with_edges_lem g es) });
        table = rw q (ap (λ (b : List ℕ). table_in b) words ∙ padded_in G (table_length n (most_after S T m r.done)) buffer w.size);
        words = rw q words;
      }
