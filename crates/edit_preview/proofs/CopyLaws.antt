-- Laws of a buffer over whose start the first table is laid: that table begins it, and what an edit leaves beyond is the buffer's own content.
use Rattle.std.specs.Prelude.{◌≡◌, refl, List, ℕ, ◌+◌, ◌-◌, ◌≤◌, ◌<◌, length, get_or, take, drop}
use Rattle.std.proofs.Common.{sym, ap, ◌∙◌, arith, length-append, take_at, drop-drop, get_or-take, length-take-le}
use Rattle.theory.specs.Logic.Range.{tabulate}
use Rattle.theory.proofs.Logic.ListLaws.{length_tabulate, tabulate_by}
use Rattle.table.specs.Table.{vertex_count, table_edges, table_length, table_in}
use Rattle.table.specs.TableLaws.{in_word}
use Rattle.table.specs.Answers.{written}
use Rattle.table.specs.AnswersLaws.{length_written, get_d_written, written_over, drop_written}
use Rattle.table.specs.Placing.{placed}
use Rattle.table.specs.PlacingLaws.{placed_written}
use Rattle.edit_rules.specs.Edges.{edited, edited_words}
use Rattle.edit_rules.specs.declared.Edit.{Edit}

-- the first words of a buffer, one by one
taken : (N : ℕ) (l : List ℕ) → N ≤ length l → tabulate N (λ i. get_or l i 0) ≡ take N l
taken N l h = sym (tabulate_by N _ 0 (take N l) (length-take-le N l h) (λ i b. get_or-take N l i 0 b))

-- words written over fewer words
written_longer : (few new old : List ℕ) → length few ≤ length new → written new (written few old) ≡ written new old
written_longer few new old h =
    let k = length new - length few in
    let N : length new ≡ length few + k = omega arith in
    written_over (length few + k) new (written few old) old N
    (sym (drop-drop k (length few) (written few old)) ∙ ap (drop k) (drop_written (length few) few old refl) ∙ drop-drop k (length few) old)

-- an edit leaves at least as many words as the table had
edited_long : (e : Edit) (g : List ℕ) (s t : ℕ) → length g ≤ length (edited_words e g s t)
unfolding edited_words
edited_long e g s t =
    let new = edited e g s t in
    let zeros : List ℕ = tabulate (length g - length new) (λ i. 0) in
    omega (arith, length-append new zeros, length_tabulate {A = ℕ} (length g - length new) (λ i. 0))

pub edited_over : (e : Edit) (g : List ℕ) (s t : ℕ) (buffer : List ℕ) → written (edited_words e g s t) (written g buffer) ≡ written (edited_words e g s t) buffer
edited_over e g s t buffer = written_longer g (edited_words e g s t) buffer (edited_long e g s t)

-- a table that is there whole in `game`
module _ (game buffer : List ℕ) (room : table_length (vertex_count game) (table_edges game) ≤ length game) where
  abbrev N : ℕ
  N = table_length (vertex_count game) (table_edges game)

  abbrev copy : List ℕ
  copy = written (table_in game) buffer

  length_first : length (table_in game) ≡ N
  length_first = length-take-le N game room

  word : (i : ℕ) → i < N → get_or copy i 0 ≡ get_or game i 0
  word i h = get_d_written (table_in game) buffer i 0 (omega (arith, length_first)) ∙ in_word game i h

  pub copy_vertices : vertex_count copy ≡ vertex_count game
  copy_vertices = word 0 (omega arith)

  pub copy_in : table_in copy ≡ table_in game
  unfolding written
  copy_in = rw (word 0 (omega arith), word 1 (omega arith)) (take_at (table_in game) _ N length_first)

  -- it is as long as the buffer, where that is long enough
  pub length_copy : N ≤ length buffer → length copy ≡ length buffer
  length_copy h = length_written (table_in game) buffer (omega (arith, length_first))

  -- and its words are put there one by one
  pub copy_made : written (table_in game) buffer ≡ placed 0 (tabulate N (λ i. get_or game i 0)) buffer
  copy_made = rw (taken N game room) (sym (placed_written (table_in game) buffer))
