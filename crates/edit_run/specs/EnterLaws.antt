-- Laws of an entry's rows by the edges before it: what is held gives them.
use Rattle.std.specs.Prelude.{◌≡◌, refl, Bool, true, false, cond, ℕ, ◌+◌, ◌-◌, ◌≤◌, ◌<◌, max, eqb, ltb, get_or, Ok, Err}
use Rattle.std.proofs.Common.{◌∙◌, arith, ne_eqb, lt-ltb, le-ltb, leb-false, ltb-false}
use Rattle.std.proofs.Math.Path.{ap}
use mathlib.Core.List.{List, [], ◌∷◌}
use Rattle.std.proofs.Math.Decide.{ℕ_discrete}
use Rattle.std.proofs.Math.Numerals.{add-one}
use Rattle.std.proofs.Math.ListN.{length}
use Rattle.theory.proofs.Logic.BoolsLaws.{bit_le, or_fails}
use Rattle.table.specs.Limits.{edge_limit}
use Rattle.table.specs.Table.{table_length}
use Rattle.table.specs.Answers.{refused, judge, Clean}
use Rattle.table.specs.declared.NoCounts.{NoCounts}
use Rattle.table.specs.declared.Refusal.{Refusal}
use Rattle.edit_rules.specs.EditParts.{change_facts, edit_facts}
use Rattle.edit_rules.specs.declared.Edit.{Edit}
use Rattle.edit_rules.specs.declared.Edit.TheVariants.{Arrival, Leaving}
use Rattle.edit_links.specs.Links.{Linked}
use Rattle.edit_trace.specs.Trace.{entries_of}
use Rattle.edit_run.specs.Turned.{leaving, stepped, pair_at, edges_after}
use Rattle.edit_run.specs.TurnedLaws.{copies_few, length_turned}
use Rattle.edit_run.specs.Tally.{Tallied, facts_at, most_after, Halted}
use Rattle.edit_run.specs.TallyLaws.{here, after_next}

leaving_few : (v : ℕ) (es : List (ℕ × ℕ)) → leaving v es ≤ length es
unfolding leaving
leaving_few v [] = omega arith
leaving_few v (e ∷ es) = omega (arith, leaving_few v es, bit_le (eqb e.0 v))

pub stepped_le : (k c : ℕ) → stepped k c ≤ k + 1
unfolding stepped
stepped_le k c = go (eqb c 0)
  where
    go : (b : Bool) → cond b (k + 1) (k - c) ≤ k + 1
    go true = omega arith
    go false = omega arith

pub stepped_less : (k c : ℕ) → (c ≡ 0 → ⊥) → stepped k c ≤ k
unfolding stepped
stepped_less k c d = rw (ne_eqb c 0 d) (omega arith)

-- an arrival that passes: the table is below the limit, and two more words are there
pub facts_room : (n l size s t k : ℕ) (b : Bool) → k ≡ 0 → Clean (edit_facts (cond (ltb 0 k) Leaving Arrival) n l size s t (ltb 0 k) b)
    → (l < edge_limit) × (table_length n l + 2 ≤ size)
unfolding edit_facts change_facts
facts_room n l size s t k b z c =
    let e = le-ltb 0 k (omega arith) in
    let d = rw e at c in
    let f = (or_fails _ _).0 d.1.0 in
    (leb-false edge_limit l f.0, ltb-false size (table_length n l + 2) f.1)

module _ (S T : List ℕ) (m N : ℕ) (few : m ≤ N) (links : List ℕ) (linked : Linked S T m N links) (i : ℕ) (below : m + i < N)
    (copies degrees : List ℕ) (edges : ℕ) (tally : Tallied S T m N i copies degrees edges)
    (long : N < length copies) (wide : get_or S (m + i) 0 < length degrees) where
  abbrev c : ℕ
  c = get_or copies (m + i) 0

  abbrev s : ℕ
  s = get_or S (m + i) 0

  c_is : c ≡ entries_of s (get_or T (m + i) 0) (edges_after S T m i)
  c_is = here S T m N few links linked i below copies degrees edges tally long wide

  -- no more copies than edges of the source, and no more of these than edges
  pub counts_few : (c ≤ get_or degrees s 0) × (get_or degrees s 0 ≤ edges)
  counts_few =
      let p = copies_few (edges_after S T m i) (pair_at S T (m + i)) in
      (omega (arith, c_is, tally.degree s, p.1), omega (arith, tally.degree s, tally.size, leaving_few s (edges_after S T m i)))

  pub facts_are : (n size : ℕ) (edit : Edit) → edit ≡ cond (ltb 0 c) Leaving Arrival
      → edit_facts edit n edges size s (get_or T (m + i) 0) (ltb 0 c) (ltb c (get_or degrees s 0)) ≡ facts_at S T m n size i
  unfolding facts_at
  facts_are n size edit e = rw (e, c_is, tally.size, tally.degree s)

-- ---- the run

-- before entry i: what is held, and all before is passed
pub record Going (S T : List ℕ) (m N n size i : ℕ) (copies degrees : List ℕ) (edges most : ℕ) : Type 0 where
  pub inside : m + i ≤ N
  pub tally : Tallied S T m N i copies degrees edges
  pub few : edges ≤ edge_limit
  pub most_is : most ≡ most_after S T m i
  pub passed : (j : ℕ) → j < i → Clean (facts_at S T m n size j)

module _ {S T : List ℕ} {m N n size : ℕ} where
  pub going_start : {copies degrees : List ℕ} → m ≤ N → m ≤ edge_limit → Tallied S T m N 0 copies degrees m → Going S T m N n size 0 copies degrees m m
  unfolding most_after
  going_start h few tally = record {
    inside = omega arith;
    tally = tally;
    few = few;
    most_is = refl;
    passed = λ j l. absurd (omega arith);
  }

  module _ {i : ℕ} {copies degrees : List ℕ} {edges most : ℕ} (go : Going S T m N n size i copies degrees edges most) where
    -- an arrival that passes has room below the limit
    next_few : Clean (facts_at S T m n size i) → length (edges_after S T m (i + 1)) ≤ edge_limit
    unfolding facts_at
    next_few c =
        let es = edges_after S T m i in
        let e = pair_at S T (m + i) in
        let k = entries_of e.0 e.1 es in
        let is = ap (λ (l : List (ℕ × ℕ)). length l) (after_next S T m i) ∙ length_turned es e in
        elim (ℕ_discrete k 0) [
          | yes q ↦ omega (arith, is, stepped_le (length es) k, facts_room n (length es) size e.0 e.1 k _ q c)
          | no d ↦ omega (arith, is, stepped_less (length es) k d, go.tally.size, go.few)
        ]

    pub going_next : m + i < N → {copies' degrees' : List ℕ} {edges' most' : ℕ} → Clean (facts_at S T m n size i)
        → Tallied S T m N (i + 1) copies' degrees' edges' → most' ≡ max most edges' → Going S T m N n size (i + 1) copies' degrees' edges' most'
    unfolding most_after
    going_next below c tally e = record {
      inside = omega arith;
      tally = tally;
      few = omega (arith, tally.size, next_few c);
      most_is = e ∙ rw (go.most_is, tally.size, add-one i);
      passed = λ j l. elim (ℕ_discrete j i) [
        | yes q ↦ rw q c
        | no d ↦ go.passed j (omega arith)
      ];
    }

    pub going_end : N ≤ m + i → (none : NoCounts)
        → Halted S T m N n size (record { verdict = Ok none; done = i; edges = edges; most = most }) copies
    going_end h none = record {
      high = go.inside;
      passed = go.passed;
      verdict = rw (le-ltb (m + i) N h);
      refuses = λ l. absurd (omega arith);
      edges = go.tally.size;
      few = go.few;
      most = go.most_is;
      found = go.tally.done;
      zeros = go.tally.zeros;
    }

    pub going_stop : m + i < N → (f : Refusal) → refused f.number f.place ≡ judge (facts_at S T m n size i) []
        → {copies' : List ℕ} → copies' ≡ copies
        → Halted S T m N n size (record { verdict = Err f; done = i; edges = edges; most = most }) copies'
    going_stop below f h same = record {
      high = go.inside;
      passed = go.passed;
      verdict = rw (lt-ltb (m + i) N below) h;
      refuses = λ l. (f.place, f.number, refl);
      edges = go.tally.size;
      few = go.few;
      most = go.most_is;
      found = λ j l. rw same (go.tally.done j l);
      zeros = λ x l. rw same (go.tally.zeros x l);
    }
