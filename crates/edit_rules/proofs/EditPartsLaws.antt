-- The edits as they are made in a buffer: the table's words that stay, and those that are put behind them.
use Rattle.std.specs.Prelude.{◌≡◌, ℕ, ◌+◌, ◌-◌, ◌*◌, ◌≤◌, ◌<◌, length, get_or, take, drop, set}
use Rattle.std.proofs.Common.{sym, ap, ◌∙◌, arith, length-append, get_or-take, get_or-drop}
use mathlib.Core.List.{List, [], ◌∷◌, ◌++◌, append-nil, append_assoc, map-append}
use Rattle.theory.specs.Logic.Range.{tabulate}
use Rattle.theory.proofs.Logic.ListLaws.{length_tabulate, tabulate_ext}
use Rattle.table.specs.Table.{vertex_count, table_edges, source_at, target_at, table_length, table_in}
use Rattle.table.specs.TableLaws.{in_word}
use Rattle.table.specs.Answers.{written}
use Rattle.table.specs.AnswersLaws.{written_snoc}
use Rattle.table.specs.Placing.{placed}
use Rattle.table.specs.PlacingLaws.{written_join}
use Rattle.table.specs.Listing.{sources_of, targets_of, Appended}
use Rattle.table.specs.ListingLaws.{read_back, listed_sources, listed_targets}
use Rattle.edit_rules.specs.Edges.{edges_in, others, edited_edges, edited, edited_words}
use Rattle.edit_rules.specs.EditParts.{Formed, Made}
use Rattle.edit_rules.proofs.BufferLaws.{in_vertices, in_edges, in_room}
use Rattle.edit_rules.proofs.EdgesLaws.{length_edges_in, length_others}
use Rattle.edit_rules.proofs.ListedPartLaws.{head, length_head, with_parts, head_kept, sources_kept, edges_sources, edges_targets}
use Rattle.edit_rules.proofs.EditedLaws.{edited_edges_lem, length_edited, arrived_edges}
use Rattle.edit_rules.specs.declared.Edit.{Edit}
use Rattle.edit_rules.specs.declared.Edit.TheVariants.{Arrival, Leaving}

-- ---- the words after an edit, part by part

edited_parts : (e : Edit) (g : List ℕ) (s t : ℕ)
    → let es = edited_edges e s t (edges_in g) in edited e g s t ≡ (head g (length es) ++ sources_of es) ++ targets_of es
unfolding edited
edited_parts e g s t = with_parts g (edited_edges e s t (edges_in g))

no_zeros : (k : ℕ) (ws : List ℕ) → k ≡ 0 → ws ++ tabulate k (λ i. 0) ≡ ws
unfolding tabulate
no_zeros k ws e = rw e (append-nil ws)

regroup : (h S U : List ℕ) (s t : ℕ) → (((h ++ S) ++ (s ∷ [])) ++ U) ++ (t ∷ []) ≡ (h ++ (S ++ (s ∷ []))) ++ (U ++ (t ∷ []))
regroup h S U s t = simp append_assoc

arrived_words : (g : List ℕ) (s t : ℕ) → length g ≡ table_length (vertex_count g) (table_edges g)
    → let m = table_edges g in
    (((head g (m + 1) ++ tabulate m (source_at g)) ++ (s ∷ [])) ++ tabulate m (target_at g)) ++ (t ∷ []) ≡ edited_words Arrival g s t
unfolding edited_words edited_edges
arrived_words g s t size =
    let m = table_edges g in
    let es = edges_in g ++ ((s, t) ∷ []) in
    let sources : sources_of es ≡ tabulate m (source_at g) ++ (s ∷ []) = map-append (λ (e : ℕ × ℕ). e.0) (edges_in g) ((s, t) ∷ []) ∙ rw (edges_sources g) in
    let targets : targets_of es ≡ tabulate m (target_at g) ++ (t ∷ []) = map-append (λ (e : ℕ × ℕ). e.1) (edges_in g) ((s, t) ∷ []) ∙ rw (edges_targets g) in
    let count : length es ≡ m + 1 = length-append (edges_in g) ((s, t) ∷ []) ∙ rw (length_edges_in g) in
    regroup (head g (m + 1)) (tabulate m (source_at g)) (tabulate m (target_at g)) s t
    ∙ sym (no_zeros _ (edited Arrival g s t) (omega (arith, length_edited Arrival g s t, arrived_edges g s t))
    ∙ edited_parts Arrival g s t ∙ rw (count, sources, targets))

left_words : (g : List ℕ) (s t : ℕ) → length g ≡ table_length (vertex_count g) (table_edges g)
    → let os = others s t (edges_in g) in
    ((head g (length os) ++ sources_of os) ++ targets_of os) ++ tabulate (2 * (table_edges g - length os)) (λ i. 0) ≡ edited_words Leaving g s t
unfolding edited_words edited_edges
left_words g s t size =
    let os = others s t (edges_in g) in
    let freed : length g - length (edited Leaving g s t) ≡ 2 * (table_edges g - length os) =
    omega (arith, length_edited Leaving g s t, edited_edges_lem Leaving g s t, length_others s t (edges_in g), length_edges_in g) in
    rw freed (ap (λ (ws : List ℕ). ws ++ tabulate (2 * (table_edges g - length os)) (λ i. 0)) (sym (edited_parts Leaving g s t)))

module _ (buffer : List ℕ) (n m : ℕ) (formed : Formed (table_in buffer) n m) where
  abbrev g : List ℕ
  g = table_in buffer

  -- the sizes of the table are those of its buffer
  sizes : (n ≡ vertex_count buffer) × (m ≡ table_edges buffer)
  sizes = (formed.vertices ∙ in_vertices buffer, formed.edges ∙ in_edges buffer)

  pub formed_room : table_length n m ≤ length buffer
  formed_room = rw (sizes.0, sizes.1) (in_room buffer formed.well)

  pub formed_part : take (table_length n m) buffer ≡ table_in buffer
  formed_part = rw (sizes.0, sizes.1)

  room : table_length (vertex_count g) (table_edges g) ≤ length buffer
  room = rw (← formed.vertices, ← formed.edges) formed_room

  same : (i : ℕ) → i < table_length (vertex_count g) (table_edges g) → get_or g i 0 ≡ get_or buffer i 0
  same i h = in_word buffer i (rw (in_vertices buffer, in_edges buffer) at h)

  -- ---- an arrival

  -- the buffer's words from a place on
  abbrev from : ℕ → List ℕ
  from at = take (length buffer - at) (drop at buffer)

  -- the targets, read back
  targets_read : (at : ℕ) (targets old : List ℕ) → at ≡ 2 + 2 * n + m → targets ≡ placed 0 (tabulate m (λ i. get_or (from at) i 0)) old
      → tabulate m (λ i. get_or targets i 0) ≡ tabulate m (target_at g)
  targets_read at targets old place copied =
      read_back m _ old targets (sym (length_tabulate m (λ i. get_or (from at) i 0))) copied
      ∙ tabulate_ext m _ _ (λ i h.
      get_or-take (length buffer - at) (drop at buffer) i 0 (omega (arith, formed_room)) ∙ get_or-drop at buffer i 0
      ∙ rw (place, formed.vertices, formed.edges) (sym (same _ (omega (arith, formed.edges)))))

  pub arrival_made : (at s t : ℕ) (targets old b₁ b₂ b₃ b₄ : List ℕ) → at ≡ 2 + 2 * n + m → table_length n m + 2 ≤ length buffer
      → targets ≡ placed 0 (tabulate m (λ i. get_or (from at) i 0)) old
      → b₁ ≡ set buffer 1 (m + 1) → b₂ ≡ set b₁ at s → b₃ ≡ placed (at + 1) (tabulate m (λ i. get_or targets i 0)) b₂ → b₄ ≡ set b₃ (at + 1 + m) t
      → Made Arrival buffer s t (m + 1) b₄
  arrival_made at s t targets old b₁ b₂ b₃ b₄ place long copied q₁ q₂ q₃ q₄ =
      let S = tabulate (table_edges g) (source_at g) in
      let U = tabulate m (λ i. get_or targets i 0) in
      let w₁ = head g (m + 1) ++ S in
      let w₂ = w₁ ++ (s ∷ []) in
      let w₃ = w₂ ++ U in
      let lh = length_head g (m + 1) in
      let ls = length_tabulate (table_edges g) (source_at g) in
      let lu = length_tabulate m (λ i. get_or targets i 0) in
      let l₁ = length-append (head g (m + 1)) S in
      let l₂ = length-append w₁ (s ∷ []) in
      let l₃ = length-append w₂ U in
      let a₁ : at ≡ length w₁ = omega (arith, formed.vertices, formed.edges) in
      let a₃ : at + 1 + m ≡ length w₃ = omega (arith, formed.vertices, formed.edges) in
      let r₁ : b₁ ≡ written w₁ buffer = q₁ ∙ head_kept g buffer room same (m + 1) ∙ sources_kept g buffer room same (m + 1) in
      let r₂ : b₂ ≡ written w₂ buffer = q₂ ∙ rw (r₁, a₁) (written_snoc w₁ buffer s (omega arith)) in
      let r₃ : b₃ ≡ written w₃ buffer = q₃ ∙ rw r₂ (written_join (at + 1) w₂ U buffer (omega arith) (omega arith)) in
      let r₄ : b₄ ≡ written (w₃ ++ (t ∷ [])) buffer = q₄ ∙ rw (r₃, a₃) (written_snoc w₃ buffer t (omega arith)) in
      let read : U ≡ tabulate (table_edges g) (target_at g) = rw (← formed.edges) (targets_read at targets old place copied) in
      record {
        count = rw (arrived_edges g s t, formed.edges);
        buffer_after = r₄ ∙ rw (read, formed.edges) (ap (λ (ws : List ℕ). written ws buffer) (arrived_words g s t formed.well.size));
      }

  -- ---- a leaving

  pub leaving_few : (s t : ℕ) {e : ℕ} {s₀ sources t₀ ends : List ℕ} → Appended (others s t (edges_in g)) 0 s₀ sources t₀ ends e → e ≤ m
  leaving_few s t appended = omega (arith, appended.count, length_others s t (edges_in g), length_edges_in g, formed.edges)

  pub leaving_made : (s t e : ℕ) (s₀ sources t₀ ends b₁ b₂ b₃ b₄ : List ℕ) → Appended (others s t (edges_in g)) 0 s₀ sources t₀ ends e
      → b₁ ≡ set buffer 1 e → b₂ ≡ placed (2 + 2 * n) (tabulate e (λ i. get_or sources i 0)) b₁
      → b₃ ≡ placed (2 + 2 * n + e) (tabulate e (λ i. get_or ends i 0)) b₂ → b₄ ≡ placed (2 + 2 * n + 2 * e) (tabulate (2 * (m - e)) (λ i. 0)) b₃
      → Made Leaving buffer s t e b₄
  leaving_made s t e s₀ sources t₀ ends b₁ b₂ b₃ b₄ appended q₁ q₂ q₃ q₄ =
      let os = others s t (edges_in g) in
      let S = tabulate e (λ i. get_or sources i 0) in
      let U = tabulate e (λ i. get_or ends i 0) in
      let Z : List ℕ = tabulate (2 * (m - e)) (λ i. 0) in
      let w₁ = head g e in
      let w₂ = w₁ ++ S in
      let w₃ = w₂ ++ U in
      let count : e ≡ length os = appended.count ∙ omega arith in
      let few : e ≤ m = leaving_few s t appended in
      let l₁ = length_head g e in
      let ls = length_tabulate e (λ i. get_or sources i 0) in
      let lu = length_tabulate e (λ i. get_or ends i 0) in
      let l₂ = length-append w₁ S in
      let l₃ = length-append w₂ U in
      let v = formed.vertices in
      let long = formed_room in
      let r₁ : b₁ ≡ written w₁ buffer = q₁ ∙ head_kept g buffer room same e in
      let r₂ : b₂ ≡ written w₂ buffer = q₂ ∙ rw r₁ (written_join (2 + 2 * n) w₁ S buffer (omega arith) (omega arith)) in
      let r₃ : b₃ ≡ written w₃ buffer = q₃ ∙ rw r₂ (written_join (2 + 2 * n + e) w₂ U buffer (omega arith) (omega arith)) in
      let r₄ : b₄ ≡ written (w₃ ++ Z) buffer = q₄ ∙ rw r₃ (written_join (2 + 2 * n + 2 * e) w₃ Z buffer (omega arith) (omega arith)) in
      record {
        count = count ∙ sym (unfold edited_edges in edited_edges_lem Leaving g s t);
        buffer_after =
            r₄ ∙ rw (listed_sources appended, listed_targets appended, count, formed.edges)
            (ap (λ (ws : List ℕ). written ws buffer) (left_words g s t formed.well.size));
      }
