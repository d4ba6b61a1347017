-- What an accepted call leaves in the buffer: the new table, which the reader accepts with its m, and whose game has exactly the edges asked for,
-- and no other priority and owner; and that a leaving of the edge that just arrived gives the old words back, and two zeros behind them.
use Rattle.std.specs.Prelude.{◌≡◌, refl, ◌⊎◌, ◌↔◌, false, List, [], ◌∷◌, ◌++◌, ℕ, ◌+◌, ◌<◌, length, drop}
use Rattle.std.proofs.Math.Path.{sym}
use Rattle.std.proofs.Common.{ap, ◌∙◌, length-append}
use Rattle.std.proofs.Math.Bool.{So}
use Rattle.theory.specs.Games.Game.{edge_count}
use Rattle.table.specs.Table.{vertex_count, table_edges, priority_at, owner_at, table_in, game_of}
use Rattle.table.specs.Answers.{Answer, accepted, Clean, written}
use Rattle.table.specs.AnswersLaws.{clean_split, clean_append, after_clean, judge_clean, written_over, drop_written}
use Rattle.table.specs.Reading.{read_answer}
use Rattle.table.specs.WellFormed.{WellFormed}
use Rattle.classes.specs.ClassesCall.{memory_rows}
use Rattle.edit_rules.specs.Buffer.{buffer_rows}
use Rattle.edit_rules.proofs.BufferLaws.{in_vertices, buffer_clean, clean_buffer}
use Rattle.edit_rules.specs.Edges.{edited, edited_words, misplaced, edit_rows}
use Rattle.edit_rules.proofs.EditedLaws.{Placed, edit_placed, edited_vertices, edited_priority, edited_owner, arrived_edge, left_edge, edited_well, edited_read, left_arrived, length_arrived, left_words, left_again, edited_in}
use Rattle.edit_rules.specs.declared.Edit.{Edit}
use Rattle.edit_rules.specs.declared.Edit.TheVariants.{Arrival, Leaving}
use Rattle.edit.specs.EditCall.{call_rows, call_counts, EditCall}
use Rattle.edit.proofs.EditRulesLaws.{call_passed}

module _ {e : Edit} {buffer : List ℕ} {s t : ℕ} {marks spare classes counts : List ℕ} {buffer' marks' spare' classes' : List ℕ}
    (call : EditCall e buffer s t marks spare classes (accepted counts) buffer' marks' spare' classes') where
  abbrev g : List ℕ
  g = table_in buffer

  abbrev new : List ℕ
  new = edited e g s t

  -- the rows that were passed
  pub call_well : WellFormed g
  call_well = clean_buffer buffer (clean_split (buffer_rows buffer) _ (call_passed call _ refl).0).0

  pub call_edit : Clean (edit_rows e g (length buffer) s t)
  call_edit =
      (clean_split (memory_rows (vertex_count buffer) (length marks) (length spare) (length classes)) (edit_rows e g (length buffer) s t)
      (clean_split (buffer_rows buffer) _ (call_passed call _ refl).0).1).1

  pub new_well : WellFormed new
  new_well = edited_well g (length buffer) s t call_well e call_edit

  call_words : buffer' ≡ written (edited_words e g s t) buffer
  call_words = call.buffer_after ∙ after_clean (call_rows e buffer s t marks spare classes) (edited_words e g s t) buffer (call_passed call _ refl).0

  -- ---- the new table begins the buffer, and the reader accepts it with n and m

  pub call_table : table_in buffer' ≡ new
  call_table = ap (λ (b : List ℕ). table_in b) call_words ∙ edited_in e g s t buffer

  pub call_read : {k n m : ℕ} → counts ≡ k ∷ n ∷ m ∷ [] → read_answer (table_in buffer') ≡ accepted (n ∷ m ∷ edge_count (game_of (table_in buffer')) ∷ [])
  unfolding call_counts
  call_read {k} {n} {m} c =
      let d = sym c ∙ (call_passed call _ refl).1 in
      let v : n ≡ vertex_count g = cc (d, edited_vertices e g s t) in
      let w : m ≡ table_edges new = cc d in
      rw (call_table, v, w) (edited_read g (length buffer) s t call_well e call_edit)

  -- ---- no priority and no owner changes

  pub call_priority : (v : ℕ) → v < vertex_count buffer → priority_at (table_in buffer') v ≡ priority_at g v
  call_priority v h = rw call_table (edited_priority e g s t v (rw (in_vertices buffer) h))

  pub call_owner : (v : ℕ) → v < vertex_count buffer → owner_at (table_in buffer') v ≡ owner_at g v
  call_owner v h = rw call_table (edited_owner e g s t v (rw (in_vertices buffer) h))

-- ---- the game has exactly the edges asked for

module _ {buffer : List ℕ} {s t : ℕ} {marks spare classes counts : List ℕ} {buffer' marks' spare' classes' : List ℕ} (v w : ℕ) where
  pub added_edge : EditCall Arrival buffer s t marks spare classes (accepted counts) buffer' marks' spare' classes'
      → So ((game_of (table_in buffer')).edge v w) ↔ (So ((game_of (table_in buffer)).edge v w) ⊎ ((v ≡ s) × (w ≡ t)))
  added_edge call = rw (call_table call) (arrived_edge (table_in buffer) s t v w)

  pub removed_edge : EditCall Leaving buffer s t marks spare classes (accepted counts) buffer' marks' spare' classes'
      → So ((game_of (table_in buffer')).edge v w) ↔ (So ((game_of (table_in buffer)).edge v w) × ¬ ((v ≡ s) × (w ≡ t)))
  removed_edge call = rw (call_table call) (left_edge (table_in buffer) s t v w)

-- ---- a leaving of the edge that just arrived, in memory that is long enough: it is accepted, with the old table's counts, and gives the old
-- words back; the two words beyond them are 0, whatever they held

module _ {buffer : List ℕ} {s t : ℕ} {marks spare classes counts : List ℕ} {buffer₁ marks₁ spare₁ classes₁ : List ℕ}
    (added : EditCall Arrival buffer s t marks spare classes (accepted counts) buffer₁ marks₁ spare₁ classes₁)
    {marks₂ spare₂ classes₂ : List ℕ} {answer : Answer} {buffer₃ marks₃ spare₃ classes₃ : List ℕ}
    (removed : EditCall Leaving buffer₁ s t marks₂ spare₂ classes₂ answer buffer₃ marks₃ spare₃ classes₃)
    (enough : Clean (memory_rows (vertex_count buffer) (length marks₂) (length spare₂) (length classes₂))) where
  abbrev old : List ℕ
  old = table_in buffer

  placed : Placed Arrival old s t
  placed = edit_placed old (length buffer) s t Arrival (call_edit added)

  absent : (game_of old).edge s t ≡ false
  unfolding misplaced
  absent = placed.there

  same_vertices : vertex_count buffer₁ ≡ vertex_count buffer
  same_vertices =
      sym (in_vertices buffer₁) ∙ ap (λ (g : List ℕ). vertex_count g) (call_table added) ∙ edited_vertices Arrival old s t ∙ in_vertices buffer

  removed_clean : Clean (call_rows Leaving buffer₁ s t marks₂ spare₂ classes₂)
  removed_clean =
      clean_append (buffer_rows buffer₁) _
      (buffer_clean buffer₁ (rw (call_table added) (new_well added)))
      (clean_append (memory_rows (vertex_count buffer₁) (length marks₂) (length spare₂) (length classes₂))
      (edit_rows Leaving (table_in buffer₁) (length buffer₁) s t) (rw same_vertices enough)
      (rw (call_table added) (left_again old s t (call_well added) absent (length buffer₁) placed)))

  back : edited Leaving (table_in buffer₁) s t ≡ old
  back = rw (call_table added) (left_arrived old s t (call_well added) absent)

  pub undone_answer : answer ≡ accepted (call_counts old)
  undone_answer = removed.verdict ∙ judge_clean _ _ removed_clean ∙ rw back

  pub undone_buffer : buffer₃ ≡ written (old ++ (0 ∷ 0 ∷ [])) buffer
  undone_buffer =
      let N = length old + 2 in
      let l : length (edited_words Arrival old s t) ≡ N = length_arrived old s t (call_well added) absent in
      let beyond : drop N buffer₁ ≡ drop N buffer = rw (call_words added) (drop_written N (edited_words Arrival old s t) buffer l) in
      let words : edited_words Leaving (table_in buffer₁) s t ≡ old ++ (0 ∷ 0 ∷ []) = rw (call_table added) (left_words old s t (call_well added) absent) in
      removed.buffer_after ∙ after_clean (call_rows Leaving buffer₁ s t marks₂ spare₂ classes₂) _ buffer₁ removed_clean
      ∙ rw words (written_over N (old ++ (0 ∷ 0 ∷ [])) buffer₁ buffer (length-append old (0 ∷ 0 ∷ [])) beyond)
