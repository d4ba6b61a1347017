-- The certificate of a reduction whose edges are listed once each: each word is the first number that will do.
use Rattle.std.specs.Prelude.{◌≡◌, cond, List, ℕ, ◌+◌, ◌-◌, ◌<◌, eqb, ltb}
use Rattle.theory.specs.Logic.Bools.{◌&◌}
use Rattle.theory.specs.Logic.Range.{first, tabulate}
use Rattle.table.specs.Table.{vertex_count, table_edges, source_at, target_at, is_edge}
use Rattle.large_images.specs.Images.{class_at, certificate_length}
use Rattle.large_reduction.specs.ReductionRules.{Ascending}

-- edges stand by ascending source, each once
pub record Rowed (r : List ℕ) : Type 0 where
  pub ascending : Ascending r
  pub once : (d e : ℕ) → d < table_edges r → e < table_edges r → source_at r d ≡ source_at r e → target_at r d ≡ target_at r e → d ≡ e

module _ (g r l : List ℕ) where
  -- the first edge between the classes of j's ends
  unfoldable pub first_image : ℕ → ℕ
  first_image j = first (is_edge r (class_at l (source_at g j)) (class_at l (target_at g j))) 0 (table_edges r)

  -- the first edge of class d
  unfoldable pub row_start : ℕ → ℕ
  row_start d = first (λ e. eqb (source_at r e) d) 0 (table_edges r)

  -- the first edge of v with the image e
  unfoldable pub edge_to : ℕ → ℕ → ℕ
  edge_to v e = first (λ j. eqb (source_at g j) v & eqb (first_image j) e) 0 (table_edges g)

  unfoldable pub lowest_member : ℕ → ℕ
  lowest_member d = first (λ v. eqb (class_at l v) d) 0 (vertex_count g)

  -- starts, members, images, and the edges after
  unfoldable pub reduction_word : ℕ → ℕ
  reduction_word i =
      let k = vertex_count g + vertex_count r in
      let m = table_edges g in
      cond (ltb i (vertex_count g)) (edge_to i (row_start (class_at l i)))
      (cond (ltb i k) (lowest_member (i - vertex_count g))
      (cond (ltb i (k + m)) (first_image (i - k)) (edge_to (source_at g (i - (k + m))) (first_image (i - (k + m)) + 1))))

  unfoldable pub reduction_words : List ℕ
  reduction_words = tabulate (certificate_length g r) reduction_word

-- the classes of two reductions in a row
unfoldable pub chained_classes : List ℕ → List ℕ → List ℕ → List ℕ
chained_classes g l l' = tabulate (vertex_count g) (λ v. class_at l' (class_at l v))
