-- Laws of a table that begins a buffer: its words, and that the reader judges it by the buffer's rows.
use Rattle.std.specs.Prelude.{◌≡◌, refl, Bool, List, [], ℕ, ◌+◌, ◌*◌, ◌≤◌, ◌<◌, ltb, leb, length, take}
use Rattle.std.proofs.Common.{sym, ◌∙◌, arith, length-take, take_all, length-take-le, ltb-true, lt-ltb, le-ltb, eq-eqb, ne_eqb}
use Rattle.std.proofs.Math.Path.{ap}
use Rattle.std.proofs.Math.Bool.{not}
use Rattle.std.proofs.Math.Decide.{dec_lt}
use Rattle.std.proofs.Math.Dec.{eqb}
use Rattle.std.proofs.Math.Seq.{take-length}
use Rattle.theory.proofs.Logic.RangeLaws.{any_ext, first_ext}
use Rattle.table.specs.Table.{vertex_count, table_edges, source_at, table_length, table_in}
use Rattle.table.specs.TableLaws.{in_word}
use Rattle.table.specs.Answers.{Row, judge, Clean}
use Rattle.table.specs.AnswersLaws.{judge_clean, judge_accepted}
use Rattle.table.specs.Reading.{lacks_edge, first_owner, first_end, first_lacking, game_rows_by, game_rows}
use Rattle.table.specs.ReadingLaws.{rows_render_by, well_clean, clean_well}
use Rattle.table.specs.Rules.{Rendered}
use Rattle.table.specs.WellFormed.{WellFormed}
use Rattle.edit_rules.specs.Buffer.{buffer_rows, buffer_rules}

module _ (buffer : List ℕ) where
  abbrev needed : ℕ
  needed = table_length (vertex_count buffer) (table_edges buffer)

  -- ---- its words are the buffer's

  pub in_vertices : vertex_count (table_in buffer) ≡ vertex_count buffer
  in_vertices = in_word buffer 0 (omega arith)

  pub in_edges : table_edges (table_in buffer) ≡ table_edges buffer
  in_edges = in_word buffer 1 (omega arith)

  in_source : (j : ℕ) → j < table_edges buffer → source_at (table_in buffer) j ≡ source_at buffer j
  in_source j h = rw in_vertices (in_word buffer (2 + 2 * vertex_count buffer + j) (omega arith))

  in_short : length buffer ≤ needed → table_in buffer ≡ buffer
  in_short h = take_all needed buffer h

  -- so all of it is
  pub in_all : length buffer ≤ needed → take (length buffer) buffer ≡ table_in buffer
  in_all h = take-length buffer ∙ sym (in_short h)

  in_length : needed ≤ length buffer → length (table_in buffer) ≡ needed
  in_length h = length-take-le needed buffer h

  -- a well-formed one is there whole
  pub in_room : WellFormed (table_in buffer) → needed ≤ length buffer
  in_room w = omega (arith, w.size, length-take needed buffer, in_vertices, in_edges)

  -- ---- the places that the reader finds

  in_owner : first_owner (table_in buffer) ≡ first_owner buffer
  unfolding first_owner
  in_owner = rw in_vertices (first_ext _ _ _ _ (λ i a h. ap (ltb 1) (in_word buffer i (omega arith))))

  in_end : first_end (table_in buffer) ≡ first_end buffer
  unfolding first_end
  in_end = rw (in_vertices, in_edges) (first_ext _ _ _ _ (λ i a h. ap (leb (vertex_count buffer)) (in_word buffer i h)))

  in_lacks : (v : ℕ) → lacks_edge (table_in buffer) v ≡ lacks_edge buffer v
  unfolding lacks_edge
  in_lacks v = rw in_edges (ap not (any_ext (table_edges buffer) _ _ (λ j l. ap (λ (x : ℕ). eqb x v) (in_source j l))))

  in_lacking : first_lacking (table_in buffer) ≡ first_lacking buffer
  unfolding first_lacking
  in_lacking = rw in_vertices (first_ext _ _ _ _ (λ v a h. in_lacks v))

-- ---- the reader's verdict of the table is that of the buffer's rows

rows_by : (unfit unfit' : ℕ → ℕ → Bool) (g : List ℕ) → (let needed = table_length (vertex_count g) (table_edges g) in unfit (length g) needed ≡ unfit' (length g) needed)
    → game_rows_by unfit g ≡ game_rows_by unfit' g
unfolding game_rows_by
rows_by unfit unfit' g e = rw e

whole_judge : (buffer counts : List ℕ) → needed buffer ≤ length buffer → judge (buffer_rows buffer) counts ≡ judge (game_rows (table_in buffer)) counts
unfolding game_rows_by judge
whole_judge buffer counts l =
    rw (in_vertices buffer, in_edges buffer, in_owner buffer, in_end buffer, in_lacking buffer)
    (rw (in_length buffer l, le-ltb (length buffer) 2 (omega arith), le-ltb (length buffer) (needed buffer) l, le-ltb (needed buffer) 2 (omega arith), eq-eqb (needed buffer) (needed buffer) refl))

pub buffer_judge : (buffer counts : List ℕ) → judge (buffer_rows buffer) counts ≡ judge (game_rows (table_in buffer)) counts
buffer_judge buffer counts = elim (dec_lt (length buffer) (needed buffer)) [
  | yes l ↦ (
      let e : ltb (length buffer) (needed buffer) ≡ not (eqb (length buffer) (needed buffer)) =
      rw (lt-ltb (length buffer) (needed buffer) l, ne_eqb (length buffer) (needed buffer) (λ e. omega arith)) in
      rw (in_short buffer (omega arith)) (ap (λ (rs : List Row). judge rs counts) (rows_by _ _ buffer e)))
  | no d ↦ whole_judge buffer counts (omega arith)
]

pub buffer_clean : (buffer : List ℕ) → WellFormed (table_in buffer) → Clean (buffer_rows buffer)
buffer_clean buffer w =
    (judge_accepted (buffer_rows buffer) [] [] (buffer_judge buffer [] ∙ judge_clean (game_rows (table_in buffer)) [] (well_clean (table_in buffer) w))).0

pub clean_buffer : (buffer : List ℕ) → Clean (buffer_rows buffer) → WellFormed (table_in buffer)
clean_buffer buffer c =
    clean_well (table_in buffer) (judge_accepted (game_rows (table_in buffer)) [] [] (sym (buffer_judge buffer []) ∙ judge_clean (buffer_rows buffer) [] c)).0

pub buffer_render : (buffer : List ℕ) → Rendered (buffer_rows buffer) (buffer_rules buffer)
buffer_render = rows_render_by ltb ◌<◌ (λ a b. (ltb-true a b, lt-ltb a b))
