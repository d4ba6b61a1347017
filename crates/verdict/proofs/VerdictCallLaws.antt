-- The promise of the verdict call at each way out, from the promises of the reader, the reduced-game call and the plan acceptor.
use Rattle.std.specs.Prelude.{◌≡◌, ◌≢◌, ℕ, ◌+◌, ◌≤◌, ◌<◌, eqb, leb, length, get_or, Result, Ok, Err}
use Rattle.std.proofs.Math.Path.{sym, ap, ap₂}
use Rattle.std.proofs.Common.{◌∙◌, arith, le-leb, eq-eqb, ne_eqb}
use mathlib.Core.List.{List, [], ◌∷◌, ◌++◌, append_assoc}
use Rattle.std.proofs.lemmas.Bool.{lt-leb}
use Rattle.theory.specs.Logic.Bools.{bit}
use Rattle.theory.specs.Classes.Reduction.{reduced}
use Rattle.table.specs.Limits.{vertex_limit, edge_limit}
use Rattle.table.specs.Table.{vertex_count, table_edges, table_length}
use Rattle.table.specs.Answers.{Row, row, memory_row, Answer, accepted, refused, judge, Clean, after}
use Rattle.table.specs.AnswersLaws.{judge_clean, judge_hit, judge_past, judge_stays, judge_accepted, after_past, after_refused}
use Rattle.table.specs.Reading.{game_rows, sizes_answer}
use Rattle.table.specs.Filling.{filling_answer, refusal_of}
use Rattle.table.specs.ReadingLaws.{read_accepted, reading_accepted, well_clean}
use Rattle.table.specs.WellFormed.{WellFormed, WellSized}
use Rattle.table.specs.declared.FilledSizes.{FilledSizes}
use Rattle.table.specs.declared.Refusal.{Refusal}
use Rattle.order.specs.OrderCall.{order_bytes}
use Rattle.classes.specs.ClassesCall.{memory_rows, class_rows, class_words}
use Rattle.reduction.specs.TableCall.{table_rows, table_counts, class_table, TableCall}
use Rattle.reduction.specs.declared.TableCounts.{TableCounts}
use Rattle.plan_links.specs.PlanTable.{vertex_at}
use Rattle.plan.specs.Acceptance.{plan_rows, plan_answer}
use Rattle.plan.specs.WinningLaws.{plan_accepted}
use Rattle.plan.specs.NumbersLaws.{recount, judge_number, plan_numbers}
use Rattle.claims.specs.WrittenMemory.{written_table}
use Rattle.claims.specs.Demands.{reduced_faithful, class_word, class_long, table_leaves_classes, passed, table_is, table_long, table_read}
use Rattle.verdict.specs.VerdictCall.{before_plan_rows, verdict_rows, shown_for, verdict_counts, VerdictCall, start_answer}

-- ---- the plan acceptor on a table that the reader accepts

pub read_plan : (table : List ℕ) (player : ℕ) (plan : List ℕ) → WellFormed table
    → (given : List ℕ) → judge (game_rows table ++ plan_rows table player plan) given ≡ judge (plan_rows table player plan) given
read_plan table player plan well given = judge_past (game_rows table) _ given (well_clean table well)

module _ (table : List ℕ) (player : ℕ) (plan : List ℕ) where
  -- none of 1 to 8 comes back
  pub plan_number : (k p : ℕ) → judge (plan_rows table player plan) [] ≡ refused k p → (11 ≤ k) × (k ≤ 16)
  plan_number k p e =
      judge_number (λ j. (11 ≤ j) × (j ≤ 16)) (plan_rows table player plan) [] k p
      (plan_numbers (λ j. (11 ≤ j) × (j ≤ 16)) (λ j h l. (h, l)) table player plan)
      e

  -- a plan that passes has a start
  pub start_there : WellFormed table → accepted [] ≡ judge (plan_rows table player plan) [] → 2 < length plan
  unfolding plan_answer
  start_there well e =
      let s = (plan_accepted table player plan [] (read_plan table player plan well [] ∙ sym e)).0.sized in
      omega (arith, s.some, s.size)

-- ---- what is judged of a plan and a class

module _ (table : List ℕ) (player : ℕ) (plan : List ℕ) (class : ℕ) (c : TableCounts) where
  pub start_refused : (k p : ℕ) → refused k p ≡ judge (plan_rows table player plan) [] → refused k p ≡ start_answer table player plan class c
  unfolding start_answer
  start_refused k p e = sym (recount (plan_rows table player plan) [] _ (sym e))

  module _ (e : accepted [] ≡ judge (plan_rows table player plan) []) where
    start_passed : accepted (c.classes ∷ c.vertices ∷ c.edges ∷ bit (eqb (vertex_at plan 0) class) ∷ []) ≡ start_answer table player plan class c
    unfolding start_answer
    start_passed = sym (judge_clean (plan_rows table player plan) _ (judge_accepted _ _ _ (sym e)).0)

    pub start_wins : vertex_at plan 0 ≡ class → accepted (c.classes ∷ c.vertices ∷ c.edges ∷ 1 ∷ []) ≡ start_answer table player plan class c
    unfolding bit
    start_wins h = rw (eq-eqb (vertex_at plan 0) class h) at start_passed

    pub start_elsewhere : vertex_at plan 0 ≢ class → accepted (c.classes ∷ c.vertices ∷ c.edges ∷ 0 ∷ []) ≡ start_answer table player plan class c
    unfolding bit
    start_elsewhere h = rw (ne_eqb (vertex_at plan 0) class h) at start_passed

-- ---- what the reader and the reduced-game call leave

-- the reader accepted
pub read_sized : {game : List ℕ} {reading : Result FilledSizes Refusal} {sizes : FilledSizes} → reading ≡ Ok sizes → filling_answer reading ≡ sizes_answer game → WellSized game sizes
read_sized {game} e a = reading_accepted game _ (rw e at a)

module _ {game marks spare classes reduction : List ℕ} {answer : Answer} {marks' spare' classes' reduction' : List ℕ}
    (table : TableCall reduced game marks spare classes reduction answer marks' spare' classes' reduction')
    (k n e : ℕ) (accepts : answer ≡ accepted (k ∷ n ∷ e ∷ [])) where
  abbrev written : List ℕ
  written = written_table n e reduction'

  -- the reader accepts the written table, with these sizes
  written_read : WellFormed written × (n ≡ vertex_count written) × (e ≡ table_edges written)
  written_read = let (w, counts) = read_accepted _ _ (table_read reduced_faithful table _ _ _ accepts) in (w, cc counts, cc counts)

  pub written_well : WellFormed written
  written_well = written_read.0

  pub reduced_small : (n ≤ vertex_limit) × (e ≤ edge_limit)
  reduced_small = let (w, vertices, edges) = written_read in (omega (arith, w.vertices), omega (arith, w.edges))

  pub reduced_long : table_length n e ≤ length reduction'
  reduced_long = table_long reduced_faithful table _ _ _ accepts

  pub classes_long : vertex_count game ≤ length classes'
  classes_long = class_long (table_leaves_classes table) (passed reduced_faithful table _ _ _ accepts)

-- ---- the verdict call

module _ (game : List ℕ) (vertex player : ℕ) (plan marks spare classes reduction : List ℕ) where
  abbrev front : List Row
  front = before_plan_rows game vertex marks spare classes reduction

  abbrev tabled : List Row
  tabled = table_rows game marks spare classes reduction

  abbrev counts : List ℕ
  counts = verdict_counts game vertex plan

  abbrev Call : Answer → List ℕ → List ℕ → List ℕ → List ℕ → Type 0
  Call = VerdictCall game vertex player plan marks spare classes reduction

  -- a refusal before anything is written
  front_refused : (k p : ℕ) → judge front [] ≡ refused k p → Call (refused k p) marks spare classes reduction
  unfolding verdict_rows
  front_refused k p e = record {
    verdict = sym (judge_stays front _ [] counts k p e);
    marks_after = sym (after_refused front [] (order_bytes game) marks e);
    spare_after = sym (after_refused front [] (order_bytes game) spare e);
    classes_after = sym (after_refused front [] (class_words game) classes e);
    reduction_after = sym (after_refused front [] (class_table reduced game) reduction e);
  }

  abbrev beyond : Row
  beyond = row 33 (leb (vertex_count game) vertex) vertex

  abbrev memory : List Row
  memory = memory_rows (vertex_count game) (length marks) (length spare) (length classes)

  abbrev room : List Row
  room = memory_row 24 (table_length (vertex_count game) (table_edges game)) reduction ∷ []

  -- the reader's refusal, taken out of its verdict
  pub verdict_handed : (reading : Result FilledSizes Refusal) (f g : Refusal) → reading ≡ Err f → filling_answer reading ≡ sizes_answer game → g ≡ refusal_of reading
      → Call (refused g.number g.place) marks spare classes reduction
  unfolding before_plan_rows sizes_answer
  verdict_handed reading f g e a r =
      rw (r, e)
      (front_refused f.number f.place (judge_stays (game_rows game) _ _ [] _ _ (sym (rw e at a))))

  module _ (well : Clean (game_rows game)) where
    -- 33, straight after them
    pub verdict_beyond : vertex_count game ≤ vertex → Call (refused 33 vertex) marks spare classes reduction
    unfolding before_plan_rows
    verdict_beyond h =
        front_refused 33 vertex (judge_past (game_rows game) _ [] well ∙ judge_hit beyond _ [] (le-leb (vertex_count game) vertex h))

    module _ (below : vertex < vertex_count game) where
      inside : Clean (beyond ∷ [])
      inside = (lt-leb (vertex_count game) vertex below, tt)

      -- from there the rows are those of the reduced-game call
      pub front_judge : (given : List ℕ) → judge front given ≡ judge tabled given
      unfolding before_plan_rows table_rows class_rows
      front_judge given =
          judge_past (game_rows game) _ given well ∙ judge_past (beyond ∷ []) (memory ++ room) given inside
          ∙ sym (judge_past (game_rows game) (memory ++ room) given well)
          ∙ ap (λ (rs : List Row). judge rs given) (sym (append_assoc (game_rows game) memory room))

      pub front_after : (new old : List ℕ) → after front new old ≡ after tabled new old
      unfolding before_plan_rows table_rows class_rows
      front_after new old =
          after_past (game_rows game) _ new old well ∙ after_past (beyond ∷ []) (memory ++ room) new old inside
          ∙ sym (after_past (game_rows game) (memory ++ room) new old well)
          ∙ ap (λ (rs : List Row). after rs new old) (sym (append_assoc (game_rows game) memory room))

      module _ {answer : Answer} {marks' spare' classes' reduction' : List ℕ}
          (table : TableCall reduced game marks spare classes reduction answer marks' spare' classes' reduction') where
        -- a refusal of the memory
        pub verdict_short : (k p : ℕ) → answer ≡ refused k p → Call (refused k p) marks' spare' classes' reduction'
        unfolding verdict_rows
        verdict_short k p e = record {
          verdict = sym (judge_stays front _ (table_counts reduced game) counts k p (front_judge _ ∙ sym table.verdict ∙ e));
          marks_after = table.marks_after ∙ sym (front_after (order_bytes game) marks);
          spare_after = table.spare_after ∙ sym (front_after (order_bytes game) spare);
          classes_after = table.classes_after ∙ sym (front_after (class_words game) classes);
          reduction_after = table.output_after ∙ sym (front_after (class_table reduced game) reduction);
        }

        module _ (c : TableCounts) (accepts : answer ≡ accepted (c.classes ∷ c.vertices ∷ c.edges ∷ [])) where
          abbrev given : List ℕ
          given = c.classes ∷ c.vertices ∷ c.edges ∷ bit (eqb (vertex_at plan 0) (get_or classes' vertex 0)) ∷ []

          counts_are : given ≡ counts
          unfolding shown_for
          counts_are =
              let e = (judge_accepted tabled (table_counts reduced game) _ (sym table.verdict ∙ accepts)).1 in
              ap₂ (λ (xs : List ℕ) (x : ℕ). xs ++ (bit (eqb (vertex_at plan 0) x) ∷ [])) (sym e)
              (class_word (table_leaves_classes table) (passed reduced_faithful table _ _ _ accepts) vertex below)

          front_clean : Clean front
          front_clean = (judge_accepted front (table_counts reduced game) _ (front_judge _ ∙ sym table.verdict ∙ accepts)).0

          -- what 11 to 16 say of the written table, and where the plan starts
          pub verdict_judged : (answer₂ : Answer)
              → answer₂ ≡ start_answer (written_table c.vertices c.edges reduction') player plan (get_or classes' vertex 0) c
              → Call answer₂ marks' spare' classes' reduction'
          unfolding verdict_rows start_answer
          verdict_judged answer₂ e = record {
            verdict =
                e ∙ ap₂ (λ (w xs : List ℕ). judge (plan_rows w player plan) xs) (table_is reduced_faithful table _ _ _ accepts) counts_are
                ∙ sym (judge_past front _ counts front_clean);
            marks_after = table.marks_after ∙ sym (front_after (order_bytes game) marks);
            spare_after = table.spare_after ∙ sym (front_after (order_bytes game) spare);
            classes_after = table.classes_after ∙ sym (front_after (class_words game) classes);
            reduction_after = table.output_after ∙ sym (front_after (class_table reduced game) reduction);
          }
