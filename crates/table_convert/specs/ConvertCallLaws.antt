-- Laws of the conversion: its promise at each way out.
use Rattle.std.specs.Prelude.{◌≡◌, ℕ, ◌+◌, ◌≤◌, ◌<◌, ltb, length, get_or, Err}
use Rattle.std.proofs.Math.Path.{sym}
use Rattle.std.proofs.Common.{◌∙◌, eqb-true, eq-eqb, lt-ltb, le-ltb}
use Rattle.std.proofs.Math.Bool.{So}
use mathlib.Core.List.{List, [], ◌∷◌}
use Rattle.theory.proofs.Logic.BoolsLaws.{and_in, and_out}
use Rattle.table.specs.Table.{vertex_count, table_edges, table_length}
use Rattle.table.specs.Answers.{Row, row, memory_row, accepted, refused, written, judge}
use Rattle.table.specs.AnswersLaws.{judge_hit, judge_next, judge_past, after_accepted, after_refused}
use Rattle.table.specs.Reading.{game_rows, sizes_answer}
use Rattle.table.specs.Filling.{filling_answer}
use Rattle.table.specs.ReadingLaws.{reading_stays, well_clean}
use Rattle.table.specs.WellFormed.{WellFormed}
use Rattle.table.specs.declared.Refusal.{Refusal}
use Rattle.table_convert.specs.LowestTable.{highest, lowest_table}
use Rattle.table_convert.specs.ConvertCall.{oversize, first_oversize, convert_rows, convert_answer, ConvertCall}

-- ---- the test for 36

pub oversize_in : (g : List ℕ) (k : ℕ) → highest g ≡ 65535 → get_or g k 0 ≡ 0 → So (oversize g k)
unfolding oversize
oversize_in g k e z = and_in (eq-eqb (highest g) 65535 e) (eq-eqb (get_or g k 0) 0 z)

pub oversize_out : (g : List ℕ) (k : ℕ) → So (oversize g k) → (highest g ≡ 65535) × (get_or g k 0 ≡ 0)
unfolding oversize
oversize_out g k h = let t = and_out h in (eqb-true (highest g) 65535 t.0, eqb-true (get_or g k 0) 0 t.1)

-- ---- the call

module _ (game output : List ℕ) where
  convert_old : (k p : ℕ) → convert_answer game output ≡ refused k p → ConvertCall game output (refused k p) output
  unfolding convert_answer
  convert_old k p e = record { verdict = sym e; output_after = sym (after_refused (convert_rows game output) _ (lowest_table game) output e) }

  -- the reader's refusal is the call's
  pub convert_handed : (f : Refusal) → filling_answer (Err f) ≡ sizes_answer game → ConvertCall game output (refused f.number f.place) output
  convert_handed f e = convert_old f.number f.place (unfold convert_answer convert_rows in reading_stays game f e _ _)

  -- the reader accepted with n and m
  module _ (well : WellFormed game) (n m : ℕ) (vertices : n ≡ vertex_count game) (edges : m ≡ table_edges game) where
    abbrev words_row : Row
    words_row = row 36 (ltb (first_oversize game) (2 + n)) (first_oversize game)

    memory : convert_answer game output ≡ judge (memory_row 24 (table_length n m) output ∷ words_row ∷ []) (n ∷ m ∷ [])
    unfolding convert_answer convert_rows
    memory = judge_past (game_rows game) _ _ (well_clean game well) ∙ rw (← vertices, ← edges)

    pub convert_short : length output < table_length n m → ConvertCall game output (refused 24 (table_length n m)) output
    convert_short h = convert_old 24 (table_length n m) (memory ∙ judge_hit _ _ _ (lt-ltb (length output) (table_length n m) h))

    module _ (long : table_length n m ≤ length output) where
      words : convert_answer game output ≡ judge (words_row ∷ []) (n ∷ m ∷ [])
      words = memory ∙ judge_next _ _ _ (le-ltb (length output) (table_length n m) long)

      pub convert_oversize : (k : ℕ) → k ≡ first_oversize game → k < 2 + n → ConvertCall game output (refused 36 k) output
      convert_oversize k e h = convert_old 36 k (words ∙ rw (← e) (judge_hit _ _ _ (lt-ltb k (2 + n) h)))

      pub convert_done : 2 + n ≤ first_oversize game → ConvertCall game output (accepted (n ∷ m ∷ [])) (written (lowest_table game) output)
      unfolding convert_answer judge
      convert_done h =
          let a : convert_answer game output ≡ accepted (n ∷ m ∷ []) = words ∙ judge_next _ [] _ (le-ltb (first_oversize game) (2 + n) h) in
          record { verdict = sym a; output_after = sym (after_accepted (convert_rows game output) _ (lowest_table game) output a) }
