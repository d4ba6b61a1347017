-- Laws of the calls that edit a table: their promise at each way out.
use Rattle.std.specs.Prelude.{◌≡◌, List, [], ◌∷◌, ◌++◌, ℕ, ◌≤◌, ltb, length, take, Result, Ok, Err}
use Rattle.std.proofs.Math.Path.{sym}
use Rattle.std.proofs.Common.{ap, ◌∙◌, append-nil, arith, length-take}
use Rattle.table.specs.Limits.{vertex_limit, edge_limit}
use Rattle.table.specs.Table.{vertex_count, table_length, table_in}
use Rattle.table.specs.Answers.{Row, Answer, accepted, refused, judge, Clean, written}
use Rattle.table.specs.AnswersLaws.{judge_clean, judge_accepted, judge_past, judge_stays, after_clean, after_refused, clean_append}
use Rattle.table.specs.Reading.{sizes_answer}
use Rattle.table.specs.Filling.{filling_answer, refusal_of}
use Rattle.table.specs.ReadingLaws.{reading_accepted}
use Rattle.table.specs.Acceptance.{acceptance_answer}
use Rattle.table.specs.WellFormed.{WellFormed}
use Rattle.table.specs.declared.FilledSizes.{FilledSizes}
use Rattle.table.specs.declared.Refusal.{Refusal}
use Rattle.order.specs.OrderCall.{order_bytes}
use Rattle.classes.specs.ClassesCall.{memory_rows, class_words}
use Rattle.classes.specs.ClassesCallLaws.{memory_fits}
use Rattle.classes.specs.ClassesRules.{ClassesFit}
use Rattle.reduction.specs.declared.TableCounts.{TableCounts}
use Rattle.edit_rules.specs.Buffer.{buffer_rows}
use Rattle.edit_rules.proofs.BufferLaws.{in_vertices, buffer_judge, buffer_clean}
use Rattle.edit_rules.specs.Edges.{edited, edited_words, edit_rows}
use Rattle.edit_rules.specs.EditParts.{Formed, Scanned, Made, edit_facts}
use Rattle.edit_rules.proofs.EditPartsLaws.{formed_part}
use Rattle.edit_rules.proofs.JudgeLaws.{scanned_rows}
use Rattle.edit_rules.specs.declared.Scan.{Scan}
use Rattle.edit_rules.proofs.EditedLaws.{edited_vertices, edited_well, edited_part}
use Rattle.edit_rules.specs.declared.Edit.{Edit}
use Rattle.edit.specs.EditCall.{call_counts, EditedBy}
use Rattle.edit.specs.EditedMemory.{EditDone}

-- the reader accepted the table that begins the buffer
pub formed : (buffer : List ℕ) {reading : Result FilledSizes Refusal} {sizes : FilledSizes} → reading ≡ Ok sizes → filling_answer reading ≡ sizes_answer (table_in buffer)
    → Formed (table_in buffer) sizes.vertices sizes.edges
formed buffer e a =
    let w = reading_accepted (table_in buffer) _ (rw e at a) in
    record { well = w.well; vertices = w.vertices; edges = w.edges }

-- memory that is enough for n vertices is enough for the table
pub call_fits : (g marks spare classes : List ℕ) {n m : ℕ} → Formed g n m
    → acceptance_answer (Ok (record {})) ≡ judge (memory_rows n (length marks) (length spare) (length classes)) [] → ClassesFit g marks spare classes
call_fits g marks spare classes form enough = memory_fits g marks spare classes form.well (rw form.vertices at enough)

-- ---- whatever the rows

pub passed_clean : (rows : List Row) → accepted [] ≡ judge rows [] → Clean rows
passed_clean rows a = (judge_accepted rows [] [] (sym a)).0

module _ (rows : List Row) (e : Edit) (g : List ℕ) (s t : ℕ) (buffer marks spare classes : List ℕ) where
  abbrev new : List ℕ
  new = edited e g s t

  call_old : (k p : ℕ) → judge rows (call_counts new) ≡ refused k p
      → EditedBy rows e g s t buffer marks spare classes (refused k p) buffer marks spare classes
  call_old k p r = record {
    verdict = sym r;
    buffer_after = sym (after_refused rows _ (edited_words e g s t) buffer r);
    marks_after = sym (after_refused rows _ (order_bytes new) marks r);
    spare_after = sym (after_refused rows _ (order_bytes new) spare r);
    classes_after = sym (after_refused rows _ (class_words new) classes r);
  }

  -- the edit is made in a buffer that g begins, and what lies beyond is the old content
  call_made : Clean rows → (start : List ℕ) → table_in start ≡ g → written (edited_words e g s t) start ≡ written (edited_words e g s t) buffer
      → (c : TableCounts) (buffer' marks' spare' classes' : List ℕ) → EditDone e start s t marks spare classes c buffer' marks' spare' classes'
      → EditedBy rows e g s t buffer marks spare classes (accepted (c.classes ∷ c.vertices ∷ c.edges ∷ [])) buffer' marks' spare' classes'
  unfolding call_counts
  call_made clean start same beyond c buffer' marks' spare' classes' done =
      let d : EditDone e start s t marks spare classes c buffer' marks' spare' classes' = done in record {
        verdict = rw (d.memory.count, d.vertices, d.made.count, same) (sym (judge_clean rows (call_counts new) clean));
        buffer_after = d.made.buffer_after ∙ rw same (beyond ∙ sym (after_clean rows (edited_words e g s t) buffer clean));
        marks_after = d.memory.marks_after ∙ rw same (sym (after_clean rows (order_bytes new) marks clean));
        spare_after = d.memory.spare_after ∙ rw same (sym (after_clean rows (order_bytes new) spare clean));
        classes_after = d.memory.classes_after ∙ rw same (sym (after_clean rows (class_words new) classes clean));
      }

-- ---- rows 1 to 8 of the table that begins `game`, 21 to 23, and then others

module _ (rest : List Row) (e : Edit) (game : List ℕ) (s t : ℕ) (buffer marks spare classes : List ℕ) where
  abbrev g : List ℕ
  g = table_in game

  -- the rows of the memory, for n vertices
  abbrev memory : ℕ → List Row
  memory n = memory_rows n (length marks) (length spare) (length classes)

  abbrev rows : List Row
  rows = buffer_rows game ++ (memory (vertex_count game) ++ rest)

  abbrev Old : Refusal → Type 0
  Old f = EditedBy rows e g s t buffer marks spare classes (refused f.number f.place) buffer marks spare classes

  old : (f : Refusal) → judge rows (call_counts (edited e g s t)) ≡ refused f.number f.place → Old f
  old f = call_old rows e g s t buffer marks spare classes f.number f.place

  -- the reader's refusal, taken out of its verdict, is the call's
  pub call_handed : (reading : Result FilledSizes Refusal) (f h : Refusal) → reading ≡ Err f → filling_answer reading ≡ sizes_answer g → h ≡ refusal_of reading → Old h
  unfolding sizes_answer
  call_handed reading f h r a k =
      rw (k, r) (old f (judge_stays (buffer_rows game) _ _ _ f.number f.place (buffer_judge game _ ∙ sym (rw r at a))))

  module _ {n m : ℕ} (form : Formed g n m) where
    vertices : n ≡ vertex_count game
    vertices = form.vertices ∙ in_vertices game

    past_table : (counts : List ℕ) → judge rows counts ≡ judge (memory n ++ rest) counts
    past_table counts = rw vertices (judge_past (buffer_rows game) _ counts (buffer_clean game form.well))

    pub call_short : (f : Refusal) → acceptance_answer (Err f) ≡ judge (memory n) [] → Old f
    call_short f a = old f (past_table _ ∙ judge_stays (memory n) rest [] _ f.number f.place (sym a))

    module _ (enough : acceptance_answer (Ok (record {})) ≡ judge (memory n) []) where
      memory_clean : Clean (memory n)
      memory_clean = passed_clean (memory n) enough

      pub call_judged : (f : Refusal) → acceptance_answer (Err f) ≡ judge rest [] → Old f
      call_judged f a =
          old f
          (past_table _ ∙ judge_past (memory n) rest _ memory_clean
          ∙ (rw (append-nil rest) at (judge_stays rest [] [] (call_counts (edited e g s t)) f.number f.place (sym a))))

      rows_clean : Clean rest → Clean rows
      rows_clean clean =
          clean_append (buffer_rows game) _ (buffer_clean game form.well)
          (clean_append (memory (vertex_count game)) rest (rw vertices at memory_clean) clean)

      pub call_done : Clean rest → (start : List ℕ) → table_in start ≡ g → written (edited_words e g s t) start ≡ written (edited_words e g s t) buffer
          → (c : TableCounts) (buffer' marks' spare' classes' : List ℕ) → EditDone e start s t marks spare classes c buffer' marks' spare' classes'
          → EditedBy rows e g s t buffer marks spare classes (accepted (c.classes ∷ c.vertices ∷ c.edges ∷ [])) buffer' marks' spare' classes'
      call_done clean = call_made rows e g s t buffer marks spare classes (rows_clean clean)

-- ---- a scan of the part that is lent is one of the table, and what the judge said goes by the table

module _ (e : Edit) (buffer : List ℕ) (s t : ℕ) {n m : ℕ} (form : Formed (table_in buffer) n m) {scan : Scan}
    (lent : Scanned (take (table_length n m) buffer) m s t scan) where
  pub lent_scanned : Scanned (table_in buffer) m s t scan
  lent_scanned = rw (formed_part buffer n m form) at lent

  -- in a buffer of any size
  pub lent_judged : (size : ℕ) {answer : Answer} → answer ≡ judge (edit_facts e n m size s t (ltb scan.copy m) scan.another) []
      → answer ≡ judge (edit_rows e (table_in buffer) size s t) []
  lent_judged size a =
      a ∙ ap (λ (rs : List Row). judge rs []) (scanned_rows form s t lent_scanned size e)

-- ---- the edit is made: the new table begins the buffer, and the memory fits it

module _ (e : Edit) (buffer : List ℕ) (s t : ℕ) {n m : ℕ} (form : Formed (table_in buffer) n m)
    (clean : Clean (edit_rows e (table_in buffer) (length buffer) s t)) where
  abbrev after : List ℕ
  after = edited e (table_in buffer) s t

  pub made_vertices : n ≡ vertex_count after
  made_vertices = form.vertices ∙ sym (edited_vertices e (table_in buffer) s t)

  pub made_well : WellFormed after
  made_well = edited_well (table_in buffer) (length buffer) s t form.well e clean

  pub made_fits : {marks spare classes : List ℕ} → ClassesFit (table_in buffer) marks spare classes → ClassesFit after marks spare classes
  made_fits f =
      let v = edited_vertices e (table_in buffer) s t in record {
        order_fits = record { game = made_well; marks_fit = rw v f.order_fits.marks_fit; spare_fit = rw v f.order_fits.spare_fit };
        words_fit = rw v f.words_fit;
      }

  module _ {m' : ℕ} {buffer' : List ℕ} (made : Made e buffer s t m' buffer') where
    pub made_few : (m' ≤ edge_limit) × (n ≤ vertex_limit)
    made_few = (omega (arith, made.count, made_well.edges), omega (arith, form.vertices, form.well.vertices))

    made_size : table_length n m' ≡ length after
    made_size = rw (made_vertices, made.count) (sym made_well.size)

    pub made_part : take (table_length n m') buffer' ≡ after
    made_part = rw (made_size, made.buffer_after) (edited_part e (table_in buffer) s t buffer)

    pub made_memory : {marks spare classes : List ℕ} → ClassesFit (table_in buffer) marks spare classes
        → ClassesFit (take (table_length n m') buffer') marks spare classes × (n ≡ vertex_count (take (table_length n m') buffer'))
    made_memory f = rw made_part (made_fits f, made_vertices)

    -- it is there whole
    pub made_room : table_length n m' ≤ length buffer'
    made_room = omega (arith, made_size, ap length made_part, length-take (table_length n m') buffer')
