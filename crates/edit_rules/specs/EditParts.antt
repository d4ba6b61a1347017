-- What the parts of the calls that edit a table assume and promise of each other. No public promise cites these.
use Rattle.std.specs.Prelude.{◌≡◌, Bool, true, false, not, cond, List, [], ◌∷◌, ℕ, ◌+◌, ◌-◌, ◌≤◌, eqb, ltb, leb}
use Rattle.theory.specs.Logic.Bools.{◌&◌, ◌or◌}
use Rattle.theory.specs.Logic.Range.{any_below, first, tabulate}
use Rattle.table.specs.Limits.{edge_limit}
use Rattle.table.specs.Table.{vertex_count, table_edges, source_at, target_at, table_length, table_in}
use Rattle.table.specs.Answers.{Row, row, written}
use Rattle.table.specs.WellFormed.{WellFormed}
use Rattle.edit_rules.specs.Edges.{edited, edited_words, misplaced}
use Rattle.edit_rules.specs.declared.Edit.{Edit}
use Rattle.edit_rules.specs.declared.Edit.TheVariants.{Arrival, Leaving}
use Rattle.edit_rules.specs.declared.Scan.{Scan}

-- a well-formed table of n vertices and m edges
pub record Formed (g : List ℕ) (n m : ℕ) : Type 0 where
  pub well : WellFormed g
  pub vertices : n ≡ vertex_count g
  pub edges : m ≡ table_edges g

-- edge j leads from s to t or, where `there` is false, from s to another vertex
unfoldable pub leads : List ℕ → ℕ → ℕ → Bool → ℕ → Bool
leads g s t there j = eqb (source_at g j) s & cond there (eqb (target_at g j) t) (not (eqb (target_at g j) t))

-- ---- a scan for the edges from s to t

-- the first of the m edges that leads from s to t, or m; and whether an edge leads from s elsewhere
pub record Scanned (g : List ℕ) (m s t : ℕ) (scan : Scan) : Type 0 where
  pub found : scan.copy ≡ first (leads g s t true) 0 m
  pub other : scan.another ≡ any_below m (leads g s t false)

-- the same before edge j: the first is found, or is the first from j on
pub record Scanning (g : List ℕ) (m s t j : ℕ) (scan : Scan) : Type 0 where
  pub inside : scan.copy ≤ m
  pub found : cond (ltb scan.copy m) scan.copy (first (leads g s t true) j m) ≡ first (leads g s t true) 0 m
  pub other : scan.another ≡ any_below j (leads g s t false)

-- ---- the rows by what they go by

-- 38 by whether another edge of the source is there, 39 by the sizes
unfoldable pub change_facts : Edit → ℕ → ℕ → ℕ → ℕ → Bool → List Row
change_facts Arrival n m size s another = row 39 (leb edge_limit m or ltb size (table_length n m + 2)) m ∷ []
change_facts Leaving n m size s another = row 38 (not another) s ∷ []

-- 37 by whether the edge is there, then 38 or 39
unfoldable pub edit_facts : Edit → ℕ → ℕ → ℕ → ℕ → ℕ → Bool → Bool → List Row
edit_facts e n m size s t there another = row 37 ((leb n s or leb n t) or misplaced e there) s ∷ change_facts e n m size s another

-- ---- edges listed, and an edit made

-- the edges from a on, below b
abbrev pub edges_part : List ℕ → ℕ → ℕ → List (ℕ × ℕ)
edges_part g a b = tabulate (b - a) (λ i. (source_at g (a + i), target_at g (a + i)))

-- the edit is made in the buffer, and m is the number of edges then
pub record Made (e : Edit) (buffer : List ℕ) (s t m : ℕ) (buffer' : List ℕ) : Type 0 where
  pub count : m ≡ table_edges (edited e (table_in buffer) s t)
  pub buffer_after : buffer' ≡ written (edited_words e (table_in buffer) s t) buffer
