-- Laws of the conversion: it refuses k at p exactly as change request 6 says, accepts exactly otherwise, and what an accepted call wrote is
-- the converted table.
use Rattle.std.specs.Prelude.{◌≡◌, refl, ◌↔◌, List, [], ◌∷◌, ℕ, ◌+◌, ◌-◌, ◌≤◌, ◌<◌, length, get_or, take, drop}
use Rattle.std.proofs.Math.Path.{sym}
use Rattle.std.proofs.Common.{ap, ◌∙◌, take_at}
use Rattle.std.proofs.Math.Bool.{false, So}
use Rattle.std.proofs.Math.Decide.{dec_lt}
use native.Mathlib.Omega.{arith}
use borrow.Author.Tests.{ltb-false, le-ltb}
use Rattle.theory.proofs.Logic.BoolsLaws.{So_not, clash}
use Rattle.theory.specs.Logic.Range.{first}
use Rattle.theory.proofs.Logic.RangeLaws.{first_before, first_none}
use Rattle.table.specs.Table.{vertex_count, table_edges, priority_at, table_length, table_in}
use Rattle.table.specs.Answers.{Answer, accepted, refused, written, Clean}
use Rattle.table.specs.AnswersLaws.{judge_clean, judge_accepted, length_written, get_d_written, get_d_written_beyond, after_accepted, after_refused, clean_append, clean_split}
use Rattle.table.specs.Reading.{game_rows}
use Rattle.table.specs.ReadingLaws.{rows_render, well_clean, clean_well}
use Rattle.table.specs.Rules.{FirstRule, Rendered, none, next}
use Rattle.table.specs.RulesLaws.{memory_renders, renders_first, refused_by, rendered_append}
use Rattle.table.specs.Highest.{highest_of}
use Rattle.table.specs.HighestLaws.{highest_of_ge, highest_of_at}
use Rattle.table_convert.specs.LowestTable.{highest, lowest_table}
use Rattle.table_convert.specs.LowestTableLaws.{lowest_vertices, lowest_edges, length_lowest}
use Rattle.table_convert.specs.ConvertCall.{oversize, first_oversize, convert_rows, convert_answer, ConvertCall}
use Rattle.table_convert.specs.ConvertCallLaws.{oversize_in, oversize_out}
use Rattle.table_convert.specs.ConvertRules.{Highest, convert_rules, ConvertFits}

-- ---- what the test for 36 says

-- a table without vertices has 0
some_vertex : (g : List ℕ) → 0 < highest g → 0 < vertex_count g
unfolding highest_of
some_vertex g h = elim (dec_lt 0 (vertex_count g)) [ yes l ↦ l | no k ↦ (let z : vertex_count g ≡ 0 = omega arith in absurd (omega (arith, rw z at h))) ]

highest_says : (g : List ℕ) (q : ℕ) → 0 < q → (highest g ≡ q) ↔ Highest g q
highest_says g q h = (
  λ e. record {
    reached = (let (v, l, r) = highest_of_at (vertex_count g) (priority_at g) (some_vertex g (omega arith)) in (v, l, r ∙ e));
    above = λ v l. omega (arith, highest_of_ge (vertex_count g) (priority_at g) v l);
  },
  λ r.
      let (v, l, e) = r.reached in
      let (w, k, f) = highest_of_at (vertex_count g) (priority_at g) (omega arith) in
      omega (arith, highest_of_ge (vertex_count g) (priority_at g) v l, r.above w k),
)

oversize_says : (g : List ℕ) (k : ℕ) → So (oversize g k) ↔ (Highest g 65535 × (get_or g k 0 ≡ 0))
oversize_says g k =
    let s = highest_says g 65535 (omega arith) in
    (λ h. let t = oversize_out g k h in (s.0 t.0, t.1), λ r. oversize_in g k (s.1 r.0) r.1)

module _ (game output : List ℕ) where
  -- ---- the rows render the rules, and are clean exactly if the game is well formed and the words fit

  convert_rows_render : Rendered (convert_rows game output) (convert_rules game output)
  unfolding convert_rows first_oversize
  convert_rows_render =
      rendered_append (rows_render game)
      (next (memory_renders 24 _ output)
      (next (renders_first 36 (oversize game) (λ k. Highest game 65535 × (get_or game k 0 ≡ 0)) 2 (2 + vertex_count game) (λ k. k) (omega arith) (oversize_says game)) none))

  convert_clean : ConvertFits game output → Clean (convert_rows game output)
  unfolding convert_rows first_oversize
  convert_clean f =
      clean_append (game_rows game) _ (well_clean game f.well)
      (le-ltb (length output) _ f.output_fits, (le-ltb _ _ (first_none (oversize game) 2 (2 + vertex_count game) (omega arith) fits), tt))
    where
      fits : (k : ℕ) → 2 ≤ k → k < 2 + vertex_count game → oversize game k ≡ false
      fits k a b = So_not (λ h.
          let r = (oversize_says game k).0 h in
          let e : k ≡ 2 + (k - 2) = omega arith in
          f.words_fit r.0 (k - 2) (omega arith) (rw e at r.1))

  clean_convert : Clean (convert_rows game output) → ConvertFits game output
  unfolding convert_rows first_oversize
  clean_convert c =
      let (well, (o, (w, _))) = clean_split (game_rows game) _ c in
      let none : 2 + vertex_count game ≤ first (oversize game) 2 (2 + vertex_count game) = ltb-false _ _ w in record {
        well = clean_well game well;
        output_fits = ltb-false (length output) _ o;
        words_fit = λ r v h z. clash ((oversize_says game (2 + v)).1 (r, z)) (first_before (oversize game) 2 (2 + vertex_count game) (2 + v) (omega arith) (omega arith));
      }

-- ---- the call

module _ {game output : List ℕ} {answer : Answer} {output' : List ℕ} (call : ConvertCall game output answer output') where
  pub convert_refused : (k p : ℕ) → (answer ≡ refused k p) ↔ FirstRule (convert_rules game output) k p
  unfolding convert_answer
  convert_refused = refused_by _ (convert_rows_render game output) call.verdict

  pub convert_accepted : (counts : List ℕ) → answer ≡ accepted counts → ConvertFits game output × (counts ≡ vertex_count game ∷ table_edges game ∷ [])
  unfolding convert_answer
  convert_accepted counts e =
      let a = judge_accepted (convert_rows game output) _ counts (sym call.verdict ∙ e) in
      (clean_convert game output a.0, sym a.1)

  pub convert_accepts : ConvertFits game output → answer ≡ accepted (vertex_count game ∷ table_edges game ∷ [])
  unfolding convert_answer
  convert_accepts f = call.verdict ∙ judge_clean _ _ (convert_clean game output f)

  -- a refused call left the output as it was
  pub convert_refused_old : (k p : ℕ) → answer ≡ refused k p → output' ≡ output
  unfolding convert_answer
  convert_refused_old k p e = call.output_after ∙ after_refused (convert_rows game output) _ (lowest_table game) output (sym call.verdict ∙ e)

-- ---- what an accepted call wrote

take_written : (new old : List ℕ) (k : ℕ) → length new ≡ k → take k (written new old) ≡ new
unfolding written
take_written new old k e = take_at new (drop (length new) old) k e

-- the table begins a buffer that it was written to
table_begins : (g old : List ℕ) → length (lowest_table g) ≡ table_length (vertex_count g) (table_edges g) → table_in (written (lowest_table g) old) ≡ lowest_table g
table_begins g old size =
    let t = lowest_table g in
    let v : vertex_count (written t old) ≡ vertex_count g = get_d_written t old 0 0 (omega arith) ∙ lowest_vertices g in
    let e : table_edges (written t old) ≡ table_edges g = get_d_written t old 1 0 (omega arith) ∙ lowest_edges g in
    rw (v, e) (take_written t old _ size)

module _ {game output counts output' : List ℕ} (call : ConvertCall game output (accepted counts) output') where
  abbrev fits : ConvertFits game output
  fits = (convert_accepted call counts refl).0

  output_holds : output' ≡ written (lowest_table game) output
  unfolding convert_answer
  output_holds = call.output_after ∙ after_accepted (convert_rows game output) _ (lowest_table game) output (sym call.verdict)

  pub written_table_lem : table_in output' ≡ lowest_table game
  written_table_lem = ap (λ (l : List ℕ). table_in l) output_holds ∙ table_begins game output (length_lowest game fits.well)

  pub length_output : length output' ≡ length output
  length_output = ap length output_holds ∙ length_written (lowest_table game) output (omega (arith, fits.output_fits, length_lowest game fits.well))

  -- words beyond the table are old
  pub beyond_output : (i : ℕ) → table_length (vertex_count game) (table_edges game) ≤ i → get_or output' i 0 ≡ get_or output i 0
  beyond_output i h = rw output_holds (get_d_written_beyond (lowest_table game) output i 0 (omega (arith, length_lowest game fits.well)))
