-- Laws of the call that replays a trace: its promise at each way out.
use Rattle.std.specs.Prelude.{◌≡◌, ℕ, ◌≤◌, length, take, Result, Ok, Err}
use Rattle.std.proofs.Math.Path.{sym}
use Rattle.std.proofs.Common.{◌∙◌, arith}
use Rattle.table.specs.declared.FilledSizes.{FilledSizes}
use mathlib.Core.List.{List, [], ◌∷◌, ◌++◌, append-nil}
use Rattle.table.specs.Limits.{vertex_limit, edge_limit}
use Rattle.table.specs.Table.{vertex_count, table_length, table_in}
use Rattle.table.specs.Answers.{Row, Answer, accepted, refused, judge, Clean}
use Rattle.table.specs.AnswersLaws.{judge_clean, judge_accepted, judge_past, judge_stays, after_clean, after_refused, clean_append}
use Rattle.table.specs.Reading.{sizes_answer}
use Rattle.table.specs.Filling.{filling_answer, refusal_of}
use Rattle.table.specs.Acceptance.{acceptance_answer}
use Rattle.table.specs.declared.Refusal.{Refusal}
use Rattle.table.specs.declared.NoCounts.{NoCounts}
use Rattle.order.specs.OrderCall.{order_bytes}
use Rattle.classes.specs.ClassesCall.{memory_rows, class_words}
use Rattle.classes.specs.ClassesCallLaws.{memory_fits}
use Rattle.classes.specs.ClassesRules.{ClassesFit}
use Rattle.classes.specs.NumberedMemory.{ClassesDone}
use Rattle.edit_rules.specs.Buffer.{buffer_rows}
use Rattle.edit_rules.proofs.BufferLaws.{in_vertices, buffer_judge, buffer_clean}
use Rattle.edit_rules.specs.EditParts.{Formed}
use Rattle.edit_rules.proofs.EditPartsLaws.{formed_room, formed_part}
use Rattle.edit_trace.specs.Trace.{trace_rows}
use Rattle.edit_trace.specs.Run.{padded}
use Rattle.edit_trace.proofs.RunLaws.{passing_clean, passing_refused}
use Rattle.edit_run.specs.RunResult.{RunResult}
use Rattle.edit_run.specs.declared.Entries.{Entries}
use Rattle.edit.specs.EditCall.{call_counts}
use Rattle.edit_replay.specs.ReplayCall.{start_rows, replayed, ReplayCall}
use Rattle.edit_replay.specs.ReplayedMemory.{Replayed}

module _ (buffer trace marks spare classes : List ℕ) where
  abbrev rows : List Row
  rows = start_rows buffer trace marks spare classes

  abbrev memory : ℕ → List Row
  memory n = memory_rows n (length marks) (length spare) (length classes)

  abbrev final : List ℕ
  final = (replayed buffer trace).table

  -- ---- a refusal before the first entry leaves all as it was

  start_old : (k p : ℕ) → judge rows [] ≡ refused k p → ReplayCall buffer trace marks spare classes (refused k p) 0 buffer marks spare classes
  start_old k p r = record {
    verdict = sym (judge_stays rows (replayed buffer trace).stop [] (call_counts final) k p r);
    done = sym (passing_refused (replayed buffer trace).done 0 rows [] r);
    buffer_after = sym (after_refused rows [] (padded final (replayed buffer trace).longest) buffer r);
    marks_after = sym (after_refused rows [] (order_bytes final) marks r);
    spare_after = sym (after_refused rows [] (order_bytes final) spare r);
    classes_after = sym (after_refused rows [] (class_words final) classes r);
  }

  -- the reader's, taken out of its verdict
  pub start_handed : (reading : Result FilledSizes Refusal) (f h : Refusal) → reading ≡ Err f → filling_answer reading ≡ sizes_answer (table_in buffer) → h ≡ refusal_of reading
      → ReplayCall buffer trace marks spare classes (refused h.number h.place) 0 buffer marks spare classes
  unfolding sizes_answer start_rows
  start_handed reading f h r a k =
      rw (k, r) (start_old f.number f.place
      (judge_stays (buffer_rows buffer) _ _ _ f.number f.place (buffer_judge buffer _ ∙ sym (rw r at a))))

  module _ {n m : ℕ} (form : Formed (table_in buffer) n m) where
    vertices : n ≡ vertex_count buffer
    vertices = form.vertices ∙ in_vertices buffer

    past_table : judge rows [] ≡ judge (memory n ++ trace_rows trace) []
    unfolding start_rows
    past_table = rw vertices (judge_past (buffer_rows buffer) _ [] (buffer_clean buffer form.well))

    pub start_short : (f : Refusal) → acceptance_answer (Err f) ≡ judge (memory n) []
        → ReplayCall buffer trace marks spare classes (refused f.number f.place) 0 buffer marks spare classes
    start_short f a = start_old f.number f.place (past_table ∙ judge_stays (memory n) (trace_rows trace) [] [] f.number f.place (sym a))

    module _ (enough : acceptance_answer (Ok (record {})) ≡ judge (memory n) []) where
      memory_clean : Clean (memory n)
      memory_clean = (judge_accepted (memory n) [] [] (sym enough)).0

      pub start_unfit : (f : Refusal) → acceptance_answer (Err f) ≡ judge (trace_rows trace) []
          → ReplayCall buffer trace marks spare classes (refused f.number f.place) 0 buffer marks spare classes
      start_unfit f a = start_old f.number f.place (past_table ∙ judge_past (memory n) (trace_rows trace) [] memory_clean ∙ sym a)

      -- it is enough for the table, too
      pub start_fits : ClassesFit (table_in buffer) marks spare classes
      start_fits = memory_fits (table_in buffer) marks spare classes form.well (rw form.vertices at enough)

      module _ (passed : accepted [] ≡ judge (trace_rows trace) []) where
        pub trace_passed : Clean (trace_rows trace)
        trace_passed = (judge_accepted (trace_rows trace) [] [] (sym passed)).0

        start_clean : Clean rows
        unfolding start_rows
        start_clean =
            clean_append (buffer_rows buffer) _ (buffer_clean buffer form.well)
            (clean_append (memory (vertex_count buffer)) (trace_rows trace) (rw vertices at memory_clean) trace_passed)

        pub start_done : {answer : Answer} {entries : ℕ} {buffer' marks' spare' classes' : List ℕ}
            → Replayed buffer trace marks spare classes answer entries buffer' marks' spare' classes'
            → ReplayCall buffer trace marks spare classes answer entries buffer' marks' spare' classes'
        start_done d = record {
          verdict = d.verdict ∙ sym (judge_past rows (replayed buffer trace).stop (call_counts final) start_clean);
          done = d.done ∙ sym (passing_clean (replayed buffer trace).done 0 rows start_clean);
          buffer_after = d.buffer_after ∙ sym (after_clean rows (padded final (replayed buffer trace).longest) buffer start_clean);
          marks_after = d.marks_after ∙ sym (after_clean rows (order_bytes final) marks start_clean);
          spare_after = d.spare_after ∙ sym (after_clean rows (order_bytes final) spare start_clean);
          classes_after = d.classes_after ∙ sym (after_clean rows (class_words final) classes start_clean);
        }

-- ---- the run is over: its table begins the buffer, and the memory fits it

module _ {buffer trace : List ℕ} {n m : ℕ} (form : Formed (table_in buffer) n m) {r : Entries} {buffer₁ : List ℕ} (ran : RunResult buffer trace n r buffer₁) where
  abbrev last : List ℕ
  last = (replayed buffer trace).table

  ran_formed : Formed (table_in buffer₁) n r.edges
  ran_formed = rw ran.table ran.formed

  pub ran_room : table_length n r.edges ≤ length buffer₁
  ran_room = formed_room buffer₁ n r.edges ran_formed

  pub ran_part : take (table_length n r.edges) buffer₁ ≡ last
  ran_part = formed_part buffer₁ n r.edges ran_formed ∙ ran.table

  pub ran_fits : {marks spare classes : List ℕ} → ClassesFit (table_in buffer) marks spare classes → ClassesFit last marks spare classes
  ran_fits f =
      let v : vertex_count last ≡ vertex_count (table_in buffer) = sym ran.formed.vertices ∙ form.vertices in record {
        order_fits = record { game = ran.formed.well; marks_fit = rw v f.order_fits.marks_fit; spare_fit = rw v f.order_fits.spare_fit };
        words_fit = rw v f.words_fit;
      }

  pub ran_few : (r.edges ≤ edge_limit) × (n ≤ vertex_limit)
  ran_few = (omega (arith, ran.formed.edges, ran.formed.well.edges), omega (arith, ran.formed.vertices, ran.formed.well.vertices))

  pub ran_memory : {marks spare classes : List ℕ} → ClassesFit (table_in buffer) marks spare classes
      → ClassesFit (take (table_length n r.edges) buffer₁) marks spare classes × (n ≡ vertex_count (take (table_length n r.edges) buffer₁))
  ran_memory f = rw ran_part (ran_fits f, ran.formed.vertices)

  module _ {marks spare classes : List ℕ} {k : ℕ} {marks' spare' classes' : List ℕ} (filled : ClassesDone last marks spare classes k marks' spare' classes') where
    ran_replayed : (answer : Answer) → answer ≡ judge (replayed buffer trace).stop (call_counts last)
        → Replayed buffer trace marks spare classes answer r.done buffer₁ marks' spare' classes'
    ran_replayed answer a = record {
      verdict = a;
      done = ran.done;
      buffer_after = ran.words;
      marks_after = filled.marks_after;
      spare_after = filled.spare_after;
      classes_after = filled.classes_after;
    }

    pub ran_refused : (f : Refusal) → r.verdict ≡ Err f
        → Replayed buffer trace marks spare classes (refused f.number f.place) r.done buffer₁ marks' spare' classes'
    ran_refused f e =
        let stop = (replayed buffer trace).stop in
        ran_replayed (refused f.number f.place)
        (sym (rw (append-nil stop) at (judge_stays stop [] [] (call_counts last) f.number f.place (sym (rw e at ran.verdict)))))

    pub ran_accepted : (none : NoCounts) → r.verdict ≡ Ok none
        → Replayed buffer trace marks spare classes (accepted (k ∷ n ∷ r.edges ∷ [])) r.done buffer₁ marks' spare' classes'
    unfolding call_counts
    ran_accepted none e =
        let stop = (replayed buffer trace).stop in
        let clean = (judge_accepted stop [] [] (sym (rw e at ran.verdict))).0 in
        ran_replayed (accepted (k ∷ n ∷ r.edges ∷ []))
        (rw (filled.count, ran.formed.vertices, ran.formed.edges) (sym (judge_clean stop (call_counts last) clean)))
