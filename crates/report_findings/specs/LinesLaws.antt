-- The lines of a report on an accepted game agree: document 02, CR 10, "The totals are the sums of the lines above, k's sum equals n, and e's
-- sum equals the edge count in the `reduced` line".
use Rattle.std.specs.Prelude.{◌≡◌, List, ℕ, get_or, Ok}
use Rattle.std.proofs.Math.Path.{sym}
use Rattle.std.proofs.Common.{ap, ◌∙◌}
use Rattle.theory.specs.Logic.Range.{sum, tabulate}
use Rattle.theory.specs.Classes.Reduction.{reduced}
use Rattle.theory.specs.Classes.Totals.{member_count, out_degree}
use Rattle.table.specs.Table.{game_of}
use Rattle.table.specs.Answers.{after}
use Rattle.table.specs.AnswersLaws.{after_clean}
use Rattle.table.specs.Reading.{game_rows, read_answer, reading_answer}
use Rattle.table.specs.ReadingLaws.{well_clean}
use Rattle.table.specs.declared.Sizes.{Sizes}
use Rattle.classes.specs.ClassesCall.{class_total}
use Rattle.reduction_totals.specs.Totals.{member_words, edge_words, member_total, edge_total}
use Rattle.reduction_totals.specs.TotalsLaws.{member_total_all, edge_total_all}
use Rattle.reduction_totals.specs.CountingLaws.{sum_written}
use Rattle.report_findings.specs.declared.Report.{Report}
use Rattle.report_findings.specs.Findings.{number, Reported}
use Rattle.report_findings.specs.FindingsLaws.{number_accepted, counted}

module _ {g classes members edges classes' members' edges' : List ℕ} {r : Report} (d : Reported g classes members edges r classes' members' edges') where
  -- the edges of `total` are those of `reduced`, whatever the verdict
  pub total_reduced : r.totals.edges ≡ r.edges
  total_reduced = d.edge_total_lem ∙ ap (number (read_answer g)) (edge_total_all g) ∙ sym d.edge_count_lem

  module _ (c : Sizes) (e : r.verdict ≡ Ok c) where
    given : {x y : ℕ} → x ≡ number (read_answer g) y → x ≡ y
    given {x} {y} q = q ∙ number_accepted y (sym d.verdict ∙ ap reading_answer e)

    -- the members of `total` are the vertices of `game`
    pub total_game : r.totals.members ≡ c.vertices
    total_game = given d.member_total_lem ∙ member_total_all g ∙ sym (counted e d.verdict).1

    written_sum : (f : ℕ → ℕ) (old new : List ℕ) → new ≡ after (game_rows g) (tabulate (class_total g) f) old
        → sum r.classes (λ i. get_or new i 0) ≡ sum (class_total g) f
    written_sum f old new w =
        rw (given d.class_count_lem)
        (sum_written (class_total g) f old new (w ∙ after_clean (game_rows g) (tabulate (class_total g) f) old (well_clean g (counted e d.verdict).0)))

    -- both are the sums of the words of the `class` lines
    pub total_members : r.totals.members ≡ sum r.classes (λ i. get_or members' i 0)
    unfolding member_total member_words
    total_members = given d.member_total_lem ∙ sym (written_sum (member_count (game_of g)) members members' d.members_after)

    pub total_edges : r.totals.edges ≡ sum r.classes (λ i. get_or edges' i 0)
    unfolding edge_total edge_words
    total_edges = given d.edge_total_lem ∙ sym (written_sum (out_degree (reduced (game_of g))) edges edges' d.edges_after_lem)
