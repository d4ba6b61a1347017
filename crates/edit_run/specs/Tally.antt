-- What a run over linked pairs holds before entry i, in place of a table. No public promise cites this.
use Rattle.std.specs.Prelude.{◌≡◌, cond, List, [], ℕ, zero, suc, ◌+◌, ◌≤◌, ◌<◌, max, ltb, length, get_or, Result, Ok, Err}
use Rattle.table.specs.Limits.{edge_limit}
use Rattle.table.specs.Acceptance.{acceptance_answer}
use Rattle.table.specs.Answers.{Row, accepted, refused, judge, Clean}
use Rattle.edit_rules.specs.EditParts.{edit_facts}
use Rattle.edit_rules.specs.declared.Edit.TheVariants.{Arrival, Leaving}
use Rattle.theory.specs.Logic.Range.{first}
use Rattle.edit_links.specs.Links.{pair_is, Linked}
use Rattle.edit_trace.specs.Trace.{entry_count, entry_at, entries_of}
use Rattle.edit_run.specs.Turned.{leaving, edges_after}
use Rattle.edit_run.specs.declared.Halt.{Halt}
use Rattle.table.specs.declared.Refusal.{Refusal}
use Rattle.table.specs.declared.NoCounts.{NoCounts}

-- the number of edges, those that leave each vertex, and at the next entry of each pair how many copies of it are there; an entry that is done
-- keeps its number, and an edge has 0
pub record Tallied (S T : List ℕ) (m N i : ℕ) (copies degrees : List ℕ) (edges : ℕ) : Type 0 where
  pub size : edges ≡ length (edges_after S T m i)
  pub degree : (v : ℕ) → get_or degrees v 0 ≡ leaving v (edges_after S T m i)
  pub next : (z : ℕ) → m + i ≤ z → z < N → first (pair_is S T (get_or S z 0) (get_or T z 0)) (m + i) N ≡ z
      → get_or copies z 0 ≡ entries_of (get_or S z 0) (get_or T z 0) (edges_after S T m i)
  pub done : (j : ℕ) → j < i → get_or copies (m + j) 0 ≡ entries_of (get_or S (m + j) 0) (get_or T (m + j) 0) (edges_after S T m j)
  pub zeros : (x : ℕ) → x < m → get_or copies x 0 ≡ 0

-- the rows of entry i by the edges before it
unfoldable pub facts_at : List ℕ → List ℕ → ℕ → ℕ → ℕ → ℕ → List Row
facts_at S T m n size i =
    let es = edges_after S T m i in
    let s = get_or S (m + i) 0 in
    let t = get_or T (m + i) 0 in
    let c = entries_of s t es in
    edit_facts (cond (ltb 0 c) Leaving Arrival) n (length es) size s t (ltb 0 c) (ltb c (leaving s es))

-- entry i is done, and what is held is so for the next; or it is refused, and nothing changes
abbrev pub EnteredPair : List ℕ → List ℕ → ℕ → ℕ → ℕ → ℕ → ℕ → Result ℕ Refusal → List ℕ → List ℕ → List ℕ → List ℕ → Type 0
EnteredPair S T m N n size i (Ok c) copies degrees copies' degrees' =
    Clean (facts_at S T m n size i) × Tallied S T m N (i + 1) copies' degrees' c
EnteredPair S T m N n size i (Err f) copies degrees copies' degrees' =
    (refused f.number f.place ≡ judge (facts_at S T m n size i) []) × (copies' ≡ copies) × (degrees' ≡ degrees)

-- the most edges of the tables up to that after i entries
unfoldable pub most_after : List ℕ → List ℕ → ℕ → ℕ → ℕ
most_after S T m zero = m
most_after S T m (suc i) = max (most_after S T m i) (length (edges_after S T m (suc i)))

-- the run is over: it stands before an entry that is refused, or behind the last; edges, most edges, and the copies that each done entry found
pub record Halted (S T : List ℕ) (m N n size : ℕ) (r : Halt) (copies : List ℕ) : Type 0 where
  pub high : m + r.done ≤ N
  pub passed : (j : ℕ) → j < r.done → Clean (facts_at S T m n size j)
  pub verdict : acceptance_answer r.verdict ≡ cond (ltb (m + r.done) N) (judge (facts_at S T m n size r.done) []) (accepted [])
  pub refuses : m + r.done < N → (p : ℕ) × (k : ℕ) × (acceptance_answer r.verdict ≡ refused k p)
  pub edges : r.edges ≡ length (edges_after S T m r.done)
  pub few : r.edges ≤ edge_limit
  pub most : r.most ≡ most_after S T m r.done
  pub found : (j : ℕ) → j < r.done → get_or copies (m + j) 0 ≡ entries_of (get_or S (m + j) 0) (get_or T (m + j) 0) (edges_after S T m j)
  pub zeros : (x : ℕ) → x < m → get_or copies x 0 ≡ 0

-- the pairs are linked, and the counts hold before the first entry
pub record Started (S T : List ℕ) (m N : ℕ) (links copies degrees : List ℕ) : Type 0 where
  pub linked : Linked S T m N links
  pub tally : Tallied S T m N 0 copies degrees m

-- the verdict before entry `done`, where the entries from k on have an end outside: the run's own, but 37 where k stops it
pub record RestJudged (trace : List ℕ) (k done : ℕ) (verdict r : Result NoCounts Refusal) : Type 0 where
  pub stopped : done < k → r ≡ verdict
  pub over : entry_count trace ≤ done → r ≡ verdict
  pub outside : k ≤ done → done < entry_count trace → acceptance_answer r ≡ refused 37 (entry_at trace done).0
