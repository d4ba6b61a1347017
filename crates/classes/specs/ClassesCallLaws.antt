-- Laws of the classes call: its promise at each way out. What its rows say is said for any counts, since the calls that write a table have
-- these rows first.
use Rattle.std.specs.Prelude.{◌≡◌, Bool, ℕ, length, Ok, Err}
use Rattle.std.proofs.Math.Path.{sym}
use Rattle.std.proofs.Common.{◌∙◌}
use mathlib.Core.List.{List, [], ◌∷◌, append-nil}
use Rattle.theory.specs.Logic.Range.{tabulate}
use Rattle.theory.specs.Order.Passes.{Marks}
use Rattle.theory.specs.Games.Game.{Game}
use Rattle.theory.specs.Order.Governed.{marks_by, relation_by, passes_by}
use Rattle.theory.specs.Classes.Reduction.{class_count, class_number}
use Rattle.table.specs.Acceptance.{acceptance_answer}
use Rattle.table.specs.Table.{vertex_count}
use Rattle.table.specs.Answers.{Row, accepted, refused, judge, written}
use Rattle.table.specs.AnswersLaws.{judge_clean, judge_accepted, judge_past, judge_stays, after_clean, after_refused, clean_append}
use Rattle.table.specs.Reading.{game_rows, sizes_answer}
use Rattle.table.specs.Filling.{filling_answer}
use Rattle.table.specs.ReadingLaws.{reading_stays, well_clean}
use Rattle.table.specs.WellFormed.{WellFormed}
use Rattle.table.specs.declared.Refusal.{Refusal}
use Rattle.marks.specs.Marks.{relation}
use Rattle.order.specs.OrderWritten.{MarksDone}
use Rattle.order.specs.OrderCall.{bytes_of}
use Rattle.classes.specs.ClassesCall.{memory_rows, class_rows, total_of, words_of, total_answer, NumberedCall}
use Rattle.classes.specs.NumberedMemory.{NumberedDone}
use Rattle.classes.specs.OrderedMarksLaws.{held_done, held_total, held_words}
use Rattle.classes.specs.ClassesRules.{ClassesFit}
use Rattle.classes.specs.ClassesRulesLaws.{classes_clean, clean_classes}

module _ (game marks spare classes : List ℕ) where
  abbrev rows : List Row
  rows = class_rows game marks spare classes

  -- the rows of the memory behind those of the game
  abbrev memory : List Row
  memory = memory_rows (vertex_count game) (length marks) (length spare) (length classes)

  pub memory_fits : WellFormed game → acceptance_answer (Ok (record {})) ≡ judge memory [] → ClassesFit game marks spare classes
  unfolding class_rows
  memory_fits well e =
      clean_classes game marks spare classes (clean_append (game_rows game) memory (well_clean game well) (judge_accepted memory [] [] (sym e)).0)

  -- ---- what the rows say, whatever counts an acceptance has

  module _ (counts : List ℕ) where
    pub rows_handed : (f : Refusal) → filling_answer (Err f) ≡ sizes_answer game → judge rows counts ≡ refused f.number f.place
    unfolding class_rows
    rows_handed f e = reading_stays game f e memory counts

    pub rows_short : WellFormed game → (f : Refusal) → acceptance_answer (Err f) ≡ judge memory [] → judge rows counts ≡ refused f.number f.place
    unfolding class_rows
    rows_short well f e = judge_past (game_rows game) memory counts (well_clean game well) ∙ (rw (append-nil memory) at (judge_stays memory [] [] counts _ _ (sym e)))

  -- ---- the call, whatever relation is written

  module _ {relation : Game → Marks} {total : List ℕ → ℕ} {words : List ℕ → List ℕ} where
    classes_old : (k p : ℕ) → total_answer total game marks spare classes ≡ refused k p → NumberedCall relation total words game marks spare classes (refused k p) marks spare classes
    unfolding total_answer
    classes_old k p e = record {
      verdict = sym e;
      marks_after = sym (after_refused rows _ (bytes_of relation game) marks e);
      spare_after = sym (after_refused rows _ (bytes_of relation game) spare e);
      classes_after = sym (after_refused rows _ (words game) classes e);
    }

    -- the reader's refusal is the call's
    pub classes_handed : (f : Refusal) → filling_answer (Err f) ≡ sizes_answer game → NumberedCall relation total words game marks spare classes (refused f.number f.place) marks spare classes
    unfolding total_answer
    classes_handed f e = classes_old f.number f.place (rows_handed _ f e)

    pub classes_short : WellFormed game → (f : Refusal) → acceptance_answer (Err f) ≡ judge memory [] → NumberedCall relation total words game marks spare classes (refused f.number f.place) marks spare classes
    unfolding total_answer
    classes_short well f e = classes_old f.number f.place (rows_short _ well f e)

    pub classes_done : ClassesFit game marks spare classes → (k : ℕ) (marks' spare' classes' : List ℕ)
        → NumberedDone relation total words game marks spare classes k marks' spare' classes' → NumberedCall relation total words game marks spare classes (accepted (k ∷ [])) marks' spare' classes'
    unfolding total_answer
    classes_done f k marks' spare' classes' d =
        let clean = classes_clean game marks spare classes f in record {
          verdict = rw d.count (sym (judge_clean rows _ clean));
          marks_after = d.marks_after ∙ sym (after_clean rows (bytes_of relation game) marks clean);
          spare_after = d.spare_after ∙ sym (after_clean rows (bytes_of relation game) spare clean);
          classes_after = d.classes_after ∙ sym (after_clean rows (words game) classes clean);
        }

  -- the relation is written, and then the classes of its marks
  pub relation_classes : (mirror : Bool) → ClassesFit game marks spare classes → (n passes k : ℕ) (marks' spare' classes' : List ℕ) → n ≡ vertex_count game
      → MarksDone (marks_by mirror) (passes_by mirror) game marks spare passes marks' spare' → k ≡ class_count n (relation n marks')
      → classes' ≡ written (tabulate n (class_number n (relation n marks'))) classes
      → NumberedDone (marks_by mirror) (total_of (relation_by mirror)) (words_of (relation_by mirror)) game marks spare classes k marks' spare' classes'
  relation_classes mirror f n passes k marks' spare' classes' e o t w =
      let held = held_done mirror f.order_fits.marks_fit o in record {
        count = t ∙ held_total mirror game held e;
        marks_after = o.marks_after;
        spare_after = o.spare_after;
        classes_after = w ∙ rw (held_words mirror game held e);
      }
