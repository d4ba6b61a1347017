-- The words of a table that stand in a buffer already, part by part, and so a table is made of its sizes, priorities, owners and edges.
use Rattle.std.specs.Prelude.{◌≡◌, refl, List, [], ◌∷◌, ◌++◌, ℕ, ◌+◌, ◌*◌, ◌≤◌, ◌<◌, length, get_or, drop, set}
use Rattle.std.proofs.Common.{sym, ap, ◌∙◌, append-nil, append_assoc, arith, length-append}
use Rattle.std.proofs.lemmas.List.{set-get_or}
use Rattle.std.proofs.Math.Seq.{drop-length}
use Rattle.theory.specs.Logic.Range.{tabulate}
use Rattle.theory.proofs.Logic.ListLaws.{length_tabulate, tabulate_ext, map_tabulate, drop_tabulate}
use Rattle.table.specs.Table.{vertex_count, table_edges, priority_at, owner_at, source_at, target_at, table_length}
use Rattle.table.specs.Answers.{written}
use Rattle.table.specs.PlacingLaws.{written_two}
use Rattle.table.specs.Listing.{sources_of, targets_of}
use Rattle.edit_rules.specs.Edges.{edges_in, with_edges}
use Rattle.edit_rules.proofs.EdgesLaws.{length_edges_in}

-- sizes, priorities and owners, with k edges
abbrev pub head : List ℕ → ℕ → List ℕ
head g k = vertex_count g ∷ k ∷ (tabulate (vertex_count g) (priority_at g) ++ tabulate (vertex_count g) (owner_at g))

pub length_head : (g : List ℕ) (k : ℕ) → length (head g k) ≡ 2 + 2 * vertex_count g
length_head g k = simp (length-append, length_tabulate) (omega arith)

pub with_parts : (g : List ℕ) (es : List (ℕ × ℕ)) → with_edges g es ≡ (head g (length es) ++ sources_of es) ++ targets_of es
unfolding with_edges
with_parts g es = simp append_assoc

-- words that are there already
kept : (new old : List ℕ) (at k : ℕ) (f : ℕ → ℕ) → at ≡ length new → at + k ≤ length old → ((i : ℕ) → i < k → f i ≡ get_or old (at + i) 0)
    → written new old ≡ written (new ++ tabulate k f) old
unfolding written
kept new old at k f e h same =
    let l : length (new ++ tabulate k f) ≡ at + k = omega (arith, length-append new (tabulate k f), length_tabulate k f) in
    rw (l, ← e, append_assoc new (tabulate k f) (drop (at + k) old), tabulate_ext k f _ same)
    (ap (λ (x : List ℕ). new ++ x) (drop_tabulate old at k h))

-- the table g has the buffer's words
module _ (g buffer : List ℕ) (room : table_length (vertex_count g) (table_edges g) ≤ length buffer)
    (same : (i : ℕ) → i < table_length (vertex_count g) (table_edges g) → get_or g i 0 ≡ get_or buffer i 0) where
  abbrev n : ℕ
  n = vertex_count g

  abbrev m : ℕ
  m = table_edges g

  pub head_kept : (k : ℕ) → set buffer 1 k ≡ written (head g k) buffer
  head_kept k =
      let p = length_tabulate n (priority_at g) in
      let own : set buffer 0 n ≡ buffer = rw (same 0 (omega arith)) (set-get_or buffer 0 0) in
      let sizes : set buffer 1 k ≡ written (n ∷ k ∷ []) buffer = rw own at (written_two n k buffer (omega arith)) in
      sizes
      ∙ kept (n ∷ k ∷ []) buffer 2 n (priority_at g) refl (omega arith) (λ v h. same (2 + v) (omega arith))
      ∙ kept (n ∷ k ∷ tabulate n (priority_at g)) buffer (2 + n) n (owner_at g) (omega arith) (omega arith) (λ v h. same (2 + n + v) (omega arith))

  pub sources_kept : (k : ℕ) → written (head g k) buffer ≡ written (head g k ++ tabulate m (source_at g)) buffer
  sources_kept k =
      kept (head g k) buffer (2 + 2 * n) m (source_at g) (sym (length_head g k)) (omega arith) (λ j h. same (2 + 2 * n + j) (omega arith))

-- ---- a table is the one with its own edges

pub edges_sources : (g : List ℕ) → sources_of (edges_in g) ≡ tabulate (table_edges g) (source_at g)
unfolding edges_in
edges_sources g = map_tabulate (λ (e : ℕ × ℕ). e.0) (table_edges g) (λ j. (source_at g j, target_at g j))

pub edges_targets : (g : List ℕ) → targets_of (edges_in g) ≡ tabulate (table_edges g) (target_at g)
unfolding edges_in
edges_targets g = map_tabulate (λ (e : ℕ × ℕ). e.1) (table_edges g) (λ j. (source_at g j, target_at g j))

written_all : (new old : List ℕ) → length new ≡ length old → written new old ≡ new
unfolding written
written_all new old e = rw (e, drop-length old) (append-nil new)

pub with_own : (g : List ℕ) → length g ≡ table_length (vertex_count g) (table_edges g) → with_edges g (edges_in g) ≡ g
with_own g size =
    let n = vertex_count g in
    let m = table_edges g in
    let room : table_length n m ≤ length g = omega arith in
    let front = head g m ++ tabulate m (source_at g) in
    let l : length front ≡ 2 + 2 * n + m = simp (length-append, length_tabulate) (omega arith) in
    let all : length (front ++ tabulate m (target_at g)) ≡ length g = omega (arith, length-append front (tabulate m (target_at g)), length_tabulate m (target_at g)) in
    let whole : g ≡ written (front ++ tabulate m (target_at g)) g =
    sym (set-get_or g 1 0) ∙ head_kept g g room (λ i h. refl) m ∙ sources_kept g g room (λ i h. refl) m
    ∙ kept front g (2 + 2 * n + m) m (target_at g) (sym l) (omega arith) (λ j h. refl) in
    with_parts g (edges_in g) ∙ rw (length_edges_in g, edges_sources g, edges_targets g) (sym (whole ∙ written_all _ g all))
