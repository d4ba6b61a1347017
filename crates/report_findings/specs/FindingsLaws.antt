-- The memory is enough, so that the report of an accepted game is what is filled in and counted.
use Rattle.std.specs.Prelude.{◌≡◌, List, ℕ, ◌≤◌, Result, Ok, Err}
use Rattle.std.proofs.Math.Path.{refl}
use Rattle.std.proofs.Common.{sym, ap, ◌∙◌, mul-le-mul}
use native.Mathlib.Omega.{arith}
use Rattle.theory.specs.Classes.Reduction.{reduced}
use Rattle.table.specs.Limits.{vertex_limit}
use Rattle.table.specs.Table.{vertex_count}
use Rattle.table.specs.Answers.{Answer, accepted, refused}
use Rattle.table.specs.AnswersLaws.{after_clean, after_refused}
use Rattle.table.specs.Reading.{game_rows, read_answer, reading_answer}
use Rattle.table.specs.ReadingLaws.{read_accepted, well_clean}
use Rattle.table.specs.WellFormed.{WellFormed}
use Rattle.table.specs.declared.Sizes.{Sizes}
use Rattle.table.specs.declared.Refusal.{Refusal}
use Rattle.marks.specs.Marks.{marks_length}
use Rattle.classes.specs.ClassesCall.{class_total, class_words}
use Rattle.reduction.specs.TableRules.{TableFits}
use Rattle.reduction.specs.Tables.{TableDone}
use Rattle.reduction.specs.declared.TableCounts.{TableCounts}
use Rattle.reduction_totals.specs.Totals.{member_words, edge_words}
use Rattle.reduction_totals.specs.Counting.{Tabulated, Totalled}
use Rattle.reduction_totals.specs.CountingLaws.{few_classes}
use Rattle.reduction_totals.specs.declared.Totals.{Totals}
use Rattle.report_findings.specs.declared.Report.{Report}
use Rattle.report_findings.specs.Findings.{number, Reported}
use Rattle.report_findings.specs.ReportMemory.{Enough, AtMost}

pub number_accepted : {a : Answer} {counts : List ℕ} (x : ℕ) → a ≡ accepted counts → number a x ≡ x
unfolding number
number_accepted x e = rw e

number_refused : {a : Answer} {k p : ℕ} (x : ℕ) → a ≡ refused k p → number a x ≡ 0
unfolding number
number_refused x e = rw e

marks_fit_lem : (g : List ℕ) → WellFormed g → marks_length (vertex_count g) ≤ marks_length vertex_limit
marks_fit_lem g w = omega (arith, mul-le-mul w.vertices w.vertices)

pub table_fits : {g marks spare output classes members edges : List ℕ} → Enough marks spare output classes members edges → WellFormed g
    → TableFits g marks spare classes output
table_fits {g} enough w = record {
  classes_fit = record {
    order_fits = record { game = w; marks_fit = omega (arith, marks_fit_lem g w, enough.marks_fit); spare_fit = omega (arith, marks_fit_lem g w, enough.spare_fit) };
    words_fit = omega (arith, w.vertices, enough.classes_fit);
  };
  output_fit = omega (arith, w.vertices, w.edges, enough.output_fit);
}

-- a word for each class fits
pub classes_fit_lem : (g : List ℕ) → WellFormed g → (n : ℕ) → vertex_limit ≤ n → class_total g ≤ n
classes_fit_lem g w n h = omega (arith, few_classes g, w.vertices)

-- the reader refuses
-- what the reader's `Accepted` tells
pub counted : {g : List ℕ} {v : Result Sizes Refusal} {c : Sizes} → v ≡ Ok c → reading_answer v ≡ read_answer g → WellFormed g × (c.vertices ≡ vertex_count g)
counted {g} h e = let a = read_accepted g _ (sym e ∙ ap reading_answer h) in (a.0, cc a.1)

pub reported_refused : (g classes members edges : List ℕ) (v : Result Sizes Refusal) (f : Refusal) → v ≡ Err f → reading_answer v ≡ read_answer g
    → Reported g classes members edges (record { verdict = v; passes = 0; classes = 0; totals = record { members = 0; edges = 0 }; vertices = 0; edges = 0 })
    classes members edges
unfolding read_answer
reported_refused g classes members edges v f h e =
    let a : read_answer g ≡ refused f.number f.place = sym e ∙ ap reading_answer h in
    record {
      verdict = e;
      passes = sym (number_refused _ a);
      class_count_lem = sym (number_refused _ a);
      member_total_lem = sym (number_refused _ a);
      edge_total_lem = sym (number_refused _ a);
      vertex_count_lem = sym (number_refused _ a);
      edge_count_lem = sym (number_refused _ a);
      classes_after = sym (after_refused (game_rows g) _ (class_words g) classes a);
      members_after = sym (after_refused (game_rows g) _ (member_words g) members a);
      edges_after_lem = sym (after_refused (game_rows g) _ (edge_words g) edges a);
    }

-- the reader accepts: the memory is filled, and the classes are counted
module _ {g marks spare classes output : List ℕ} {passes : ℕ} {counts : TableCounts} {marks' spare' classes' output' : List ℕ}
    (made : TableDone reduced g marks spare classes output passes counts marks' spare' classes' output') where
  pub tabulated : WellFormed g → Tabulated g classes' output'
  tabulated w = record { well = w; old_classes = classes; classes_are = made.table.classes_after; old_table = output; table_is = made.table.output_after }

  pub reported_accepted : {members members' edges edges' : List ℕ} {totals : Totals} → Totalled g members edges totals members' edges'
      → (v : Result Sizes Refusal) (c : Sizes) → v ≡ Ok c → reading_answer v ≡ read_answer g
      → Reported g classes members edges
      (record { verdict = v; passes = passes; classes = counts.classes; totals = totals; vertices = counts.vertices; edges = counts.edges })
      classes' members' edges'
  reported_accepted summed v c h e =
      let a : read_answer g ≡ reading_answer (Ok c) = sym e ∙ ap reading_answer h in
      let clean = well_clean g (counted h e).0 in
      let t = made.table in
      record {
        verdict = e;
        passes = made.order.count ∙ sym (number_accepted _ a);
        class_count_lem = t.class_count_lem ∙ sym (number_accepted _ a);
        member_total_lem = summed.member_total_lem ∙ sym (number_accepted _ a);
        edge_total_lem = summed.edge_total_lem ∙ sym (number_accepted _ a);
        vertex_count_lem = t.vertex_count_lem ∙ sym (number_accepted _ a);
        edge_count_lem = t.edge_count_lem ∙ sym (number_accepted _ a);
        classes_after = t.classes_after ∙ sym (after_clean (game_rows g) (class_words g) _ clean);
        members_after = summed.members_after ∙ sym (after_clean (game_rows g) (member_words g) _ clean);
        edges_after_lem = summed.edges_after_lem ∙ sym (after_clean (game_rows g) (edge_words g) _ clean);
      }

pub reported_same : {g h classes members edges classes' members' edges' : List ℕ} {r : Report} → g ≡ h
    → Reported g classes members edges r classes' members' edges' → Reported h classes members edges r classes' members' edges'
reported_same e d = rw e at d

-- words for the largest game are enough to print
module _ {g classes members edges classes' members' edges' : List ℕ} {r : Report} (d : Reported g classes members edges r classes' members' edges') where
  pub reported_small : (n : ℕ) → vertex_limit ≤ n → AtMost n r.verdict
  reported_small n h = record { fits = λ c e. let s = counted e d.verdict in omega (arith, s.1, s.0.vertices) }

  pub reported_classes : r.classes ≤ vertex_limit
  unfolding number
  reported_classes = go (read_answer g) refl d.class_count_lem
    where
      go : (a : Answer) → read_answer g ≡ a → r.classes ≡ number a (class_total g) → r.classes ≤ vertex_limit
      go (accepted counts) e q = omega (arith, classes_fit_lem g (read_accepted g counts e).0 vertex_limit (omega arith))
      go (refused k p) e q = omega arith
