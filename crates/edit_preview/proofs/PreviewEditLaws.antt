-- A preview is the edit on a copy: where the second table is long enough, it and the edit on that table with the first laid over its start give
-- the same answer and, accepted, leave the same words in all four buffers. Where 1 to 8 refuse the first table, it answers as the edit on the first
-- buffer. A shorter second table is 24, unless 21 to 23 refuse, which don't go by its length. There is no other case (`preview_cases`).
use Rattle.std.specs.Prelude.{◌≡◌, Bool, ℕ, ◌≤◌, ◌<◌, length}
use Rattle.std.proofs.Math.Path.{refl}
use Rattle.std.proofs.Common.{sym, ap, ◌∙◌, ltb-true, lt-ltb, le-ltb, ltb-false}
use Rattle.std.proofs.Math.Bool.{true, false}
use mathlib.Core.List.{List, [], ◌∷◌, ◌++◌}
use Rattle.std.proofs.Math.Dec.{ltb}
use Rattle.table.specs.Table.{vertex_count, table_edges, table_length, table_in}
use Rattle.table.specs.Answers.{Row, memory_row, Answer, accepted, refused, judge, Clean, written}
use Rattle.table.specs.AnswersLaws.{judge_hit, judge_next, judge_accepted, judge_past, judge_stays, after_clean, clean_split}
use Rattle.order.specs.OrderCall.{order_bytes}
use Rattle.classes.specs.ClassesCall.{memory_rows, class_words}
use Rattle.edit_rules.specs.Buffer.{buffer_rows}
use Rattle.edit_rules.proofs.BufferLaws.{in_vertices, buffer_judge, buffer_clean, clean_buffer, in_room}
use Rattle.edit_rules.specs.Edges.{edited, edited_words, edit_rows}
use Rattle.edit_rules.specs.declared.Edit.{Edit}
use Rattle.edit.specs.EditCall.{call_rows, call_counts, EditCall}
use Rattle.edit.proofs.EditRulesLaws.{call_passed, call_refused_old}
use Rattle.edit_preview.proofs.CopyLaws.{edited_over, copy_vertices, copy_in, length_copy}
use Rattle.edit_preview.specs.PreviewCall.{preview_rows, PreviewCall}
use Rattle.edit_preview.specs.PreviewCases.{AnsweredAs, RefusedOld, PreviewCase, PreviewCases}

-- rows that judge alike, before rows that do
judge_alike : (rs rs' ss ss' : List Row) (counts : List ℕ) → judge rs [] ≡ judge rs' [] → judge ss counts ≡ judge ss' counts
    → judge (rs ++ ss) counts ≡ judge (rs' ++ ss') counts
judge_alike rs rs' ss ss' counts first then = go (judge rs []) refl
  where
    go : (a : Answer) → judge rs [] ≡ a → judge (rs ++ ss) counts ≡ judge (rs' ++ ss') counts
    go (accepted given) e =
        judge_past rs ss counts (judge_accepted rs [] given e).0 ∙ then
        ∙ sym (judge_past rs' ss' counts (judge_accepted rs' [] given (sym first ∙ e)).0)
    go (refused k p) e = judge_stays rs ss [] counts k p e ∙ sym (judge_stays rs' ss' [] counts k p (sym first ∙ e))

module _ (game : List ℕ) {e : Edit} {s t : ℕ} {table marks spare classes : List ℕ} {answer : Answer} {table' marks' spare' classes' : List ℕ}
    (preview : PreviewCall e game s t table marks spare classes answer table' marks' spare' classes') where
  abbrev g : List ℕ
  g = table_in game

  -- the second table with the first laid over its start
  abbrev copy : List ℕ
  copy = written g table

  abbrev needed : ℕ
  needed = table_length (vertex_count game) (table_edges game)

  abbrev memory : ℕ → List Row
  memory n = memory_rows n (length marks) (length spare) (length classes)

  -- ---- the same answer

  module _ (whole : needed ≤ length game) (long : needed ≤ length table) where
    same_judge : (counts : List ℕ) → judge (preview_rows e game s t table marks spare classes) counts ≡ judge (call_rows e copy s t marks spare classes) counts
    same_judge counts =
        let same = copy_in game table whole in
        judge_alike (buffer_rows game) (buffer_rows copy) _ _ counts
        (buffer_judge game [] ∙ sym (buffer_judge copy [] ∙ rw same))
        (rw (same, copy_vertices game table whole, length_copy game table whole long)
        (judge_alike (memory (vertex_count game)) (memory (vertex_count game)) _ _ counts refl
        (judge_next _ (edit_rows e g (length table) s t) counts (le-ltb (length table) needed long))))

    pub preview_answer : AnsweredAs e copy s t marks spare classes answer
    preview_answer answer₁ table₁ marks₁ spare₁ classes₁ call =
        preview.verdict ∙ same_judge _
        ∙ sym (call.verdict ∙ ap (λ (h : List ℕ). judge (call_rows e copy s t marks spare classes) (call_counts (edited e h s t))) (copy_in game table whole))

  -- of a first table that the reader refuses
  module _ (k p : ℕ) (unread : judge (buffer_rows game) [] ≡ refused k p) where
    unread_refused : answer ≡ refused k p
    unread_refused = preview.verdict ∙ judge_stays (buffer_rows game) _ [] _ k p unread

    -- and so does the edit on the first buffer
    pub preview_unread : AnsweredAs e game s t marks spare classes answer
    preview_unread answer₁ game₁ marks₁ spare₁ classes₁ call = unread_refused ∙ sym (call.verdict ∙ judge_stays (buffer_rows game) _ [] _ k p unread)

  -- ---- of a first table that the reader accepts: 21 to 23, and after 23, 24

  module _ (read : Clean (buffer_rows game)) where
    -- 21 to 23 are said of the first table's n wherever it begins a buffer, whatever rows follow
    memory_judge : (buffer : List ℕ) → table_in buffer ≡ g → (rest : List Row) (counts : List ℕ) (k p : ℕ) → judge (memory (vertex_count game)) [] ≡ refused k p
        → judge (buffer_rows buffer ++ (memory (vertex_count buffer) ++ rest)) counts ≡ refused k p
    memory_judge buffer same rest counts k p r =
        let v : vertex_count buffer ≡ vertex_count game = sym (in_vertices buffer) ∙ ap (λ (h : List ℕ). vertex_count h) same ∙ in_vertices game in
        judge_past (buffer_rows buffer) _ counts (buffer_clean buffer (rw same (clean_buffer game read)))
        ∙ judge_stays (memory (vertex_count buffer)) rest [] counts k p (rw v r)

    module _ (k p : ℕ) (short : judge (memory (vertex_count game)) [] ≡ refused k p) where
      memory_refused : answer ≡ refused k p
      memory_refused = preview.verdict ∙ memory_judge game refl _ _ k p short

      -- and so does the edit on whatever buffer the first table begins
      pub preview_memory : (buffer : List ℕ) → table_in buffer ≡ g → AnsweredAs e buffer s t marks spare classes answer
      preview_memory buffer same answer₁ buffer₁ marks₁ spare₁ classes₁ call = memory_refused ∙ sym (call.verdict ∙ memory_judge buffer same _ _ k p short)

    pub preview_short : Clean (memory (vertex_count game)) → length table < needed → answer ≡ refused 24 needed
    preview_short enough h =
        preview.verdict ∙ judge_past (buffer_rows game) _ _ read ∙ judge_past (memory (vertex_count game)) _ _ enough
        ∙ judge_hit (memory_row 24 needed table) _ _ (lt-ltb (length table) needed h)

  -- ---- each call is in exactly one of the four cases

  abbrev Case : Answer → Answer → Bool → Type 0
  Case = PreviewCase e game s t table marks spare classes answer table' marks' spare' classes'

  old : (k p : ℕ) → answer ≡ refused k p → RefusedOld e game s t table marks spare classes answer table' marks' spare' classes' k p
  old k p a = (a, call_refused_old preview k p a)

  pub preview_cases : PreviewCases e game s t table marks spare classes answer table' marks' spare' classes'
  unfolding PreviewCase
  preview_cases = go (judge (buffer_rows game) []) (judge (memory (vertex_count game)) []) (ltb (length table) needed) refl refl refl
    where
      go : (table-says memory-says : Answer) (short : Bool)
          → judge (buffer_rows game) [] ≡ table-says → judge (memory (vertex_count game)) [] ≡ memory-says → ltb (length table) needed ≡ short
          → Case table-says memory-says short
      go (refused k p) a short r m l = (old k p (unread_refused k p r), preview_unread k p r)
      go (accepted c) (refused k p) short r m l =
          let read = (judge_accepted (buffer_rows game) [] c r).0 in
          (old k p (memory_refused read k p m), preview_memory read k p m)
      go (accepted c) (accepted d) true r m l =
          let read = (judge_accepted (buffer_rows game) [] c r).0 in
          let enough = (judge_accepted (memory (vertex_count game)) [] d m).0 in
          old 24 needed (preview_short read enough (ltb-true (length table) needed l))
      go (accepted c) (accepted d) false r m l =
          let whole = in_room game (clean_buffer game (judge_accepted (buffer_rows game) [] c r).0) in
          preview_answer whole (ltb-false (length table) needed l)

  -- ---- the same words

  -- accepted, it is an edit of the copy
  pub preview_edit : (counts : List ℕ) → answer ≡ accepted counts → EditCall e copy s t marks spare classes answer table' marks' spare' classes'
  preview_edit counts a =
      let rows = preview_rows e game s t table marks spare classes in
      let rows₁ = call_rows e copy s t marks spare classes in
      let clean : Clean rows = (call_passed preview counts a).0 in
      let parts = clean_split (buffer_rows game) _ clean in
      let whole = in_room game (clean_buffer game parts.0) in
      let beyond = (clean_split (memory (vertex_count game)) (memory_row 24 needed table ∷ edit_rows e g (length table) s t) parts.1).1 in
      let long = ltb-false (length table) needed beyond.0 in
      let same = copy_in game table whole in
      let judged = preview.verdict ∙ same_judge whole long _ in
      let clean₁ : Clean rows₁ = (judge_accepted rows₁ _ counts (sym judged ∙ a)).0 in
      record {
        verdict = judged ∙ ap (λ (h : List ℕ). judge rows₁ (call_counts (edited e h s t))) (sym same);
        buffer_after =
            preview.buffer_after ∙ after_clean rows _ table clean ∙ sym (edited_over e g s t table)
            ∙ ap (λ (h : List ℕ). written (edited_words e h s t) copy) (sym same) ∙ sym (after_clean rows₁ _ copy clean₁);
        marks_after =
            preview.marks_after ∙ after_clean rows _ marks clean
            ∙ ap (λ (h : List ℕ). written (order_bytes (edited e h s t)) marks) (sym same) ∙ sym (after_clean rows₁ _ marks clean₁);
        spare_after =
            preview.spare_after ∙ after_clean rows _ spare clean
            ∙ ap (λ (h : List ℕ). written (order_bytes (edited e h s t)) spare) (sym same) ∙ sym (after_clean rows₁ _ spare clean₁);
        classes_after =
            preview.classes_after ∙ after_clean rows _ classes clean
            ∙ ap (λ (h : List ℕ). written (class_words (edited e h s t)) classes) (sym same) ∙ sym (after_clean rows₁ _ classes clean₁);
      }

  -- and so leaves what that edit leaves
  pub preview_words : (counts : List ℕ) → answer ≡ accepted counts
      → {answer₁ : Answer} {table₁ marks₁ spare₁ classes₁ : List ℕ} → EditCall e copy s t marks spare classes answer₁ table₁ marks₁ spare₁ classes₁
      → (table' ≡ table₁) × (marks' ≡ marks₁) × (spare' ≡ spare₁) × (classes' ≡ classes₁)
  preview_words counts a call =
      let edit = preview_edit counts a in (
        edit.buffer_after ∙ sym call.buffer_after,
        edit.marks_after ∙ sym call.marks_after,
        edit.spare_after ∙ sym call.spare_after,
        edit.classes_after ∙ sym call.classes_after,
      )
