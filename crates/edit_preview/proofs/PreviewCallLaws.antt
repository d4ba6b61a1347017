-- Laws of the calls that preview an edit: the rows beyond 23, and the second table once the first is copied over its start.
use Rattle.std.specs.Prelude.{◌≡◌, false, List, [], ◌∷◌, ℕ, ◌≤◌, ◌<◌, length, get_or}
use Rattle.std.proofs.Common.{sym, ap, ◌∙◌, lt-ltb, le-ltb}
use Rattle.theory.specs.Logic.Range.{tabulate}
use Rattle.table.specs.Table.{vertex_count, table_edges, table_length, table_in}
use Rattle.table.specs.Answers.{Row, memory_row, refused, judge, Clean, written}
use Rattle.table.specs.AnswersLaws.{judge_hit, judge_next}
use Rattle.table.specs.Placing.{placed}
use Rattle.edit_rules.proofs.BufferLaws.{in_vertices, in_edges}
use Rattle.edit_rules.specs.Edges.{edited_words}
use Rattle.edit_rules.specs.EditParts.{Formed}
use Rattle.edit_rules.proofs.EditPartsLaws.{formed_room}
use Rattle.edit_rules.specs.declared.Edit.{Edit}
use Rattle.edit_preview.proofs.CopyLaws.{edited_over, copy_in, length_copy, copy_made}

module _ (game table : List ℕ) {n m : ℕ} (form : Formed (table_in game) n m) where
  abbrev needed : ℕ
  needed = table_length (vertex_count game) (table_edges game)

  size : table_length n m ≡ needed
  size = rw (form.vertices ∙ in_vertices game, form.edges ∙ in_edges game)

  room : needed ≤ length game
  room = rw (← size) (formed_room game n m form)

  -- ---- 24, and what follows it

  module _ (rows : List Row) where
    abbrev rest : List Row
    rest = memory_row 24 needed table ∷ rows

    pub table_short : length table < table_length n m → refused 24 (table_length n m) ≡ judge rest []
    table_short h = rw size (sym (judge_hit _ rows [] (lt-ltb (length table) needed (rw size at h))))

    module _ (long : table_length n m ≤ length table) where
      fits : (memory_row 24 needed table).condition ≡ false
      fits = le-ltb (length table) needed (rw size at long)

      pub table_long : judge rest [] ≡ judge rows []
      table_long = judge_next _ rows [] fits

      pub table_clean : Clean rows → Clean rest
      table_clean clean = (fits, clean)

  -- ---- the second table, b, with the first copied over its start

  module _ {b : List ℕ} (made : b ≡ placed 0 (tabulate (table_length n m) (λ i. get_or game i 0)) table) where
    copied : b ≡ written (table_in game) table
    copied = made ∙ rw size (sym (copy_made game table room))

    pub copied_in : table_in b ≡ table_in game
    copied_in = ap (λ (b : List ℕ). table_in b) copied ∙ copy_in game table room

    pub copied_length : table_length n m ≤ length table → length b ≡ length table
    copied_length long = ap (λ (b : List ℕ). length b) copied ∙ length_copy game table room (rw size at long)

    -- an edit there leaves what it leaves in the second table
    pub copied_over : (e : Edit) (s t : ℕ) → written (edited_words e (table_in game) s t) b ≡ written (edited_words e (table_in game) s t) table
    copied_over e s t = ap (λ (b : List ℕ). written (edited_words e (table_in game) s t) b) copied ∙ edited_over e (table_in game) s t table
