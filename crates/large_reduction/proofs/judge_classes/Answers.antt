-- After each test that does not refuse, the rest of the table of refusals decides.
use mathlib.Core.Path.{◌≡◌, refl, sym, ap, ◌∙◌}
use mathlib.Core.Bool.{not}
use mathlib.Core.List.{[]}
use Prim.Native.Nat.{ℕ}
use borrow.Author.Tests.{eq-eqb, ne_eqb}
use lib.ListN.{drop}
use Rattle.table.specs.Table.{vertex_count, table_edges}
use Rattle.table.specs.Answers.{Answer, refused, judge}
use Rattle.table.specs.AnswersLaws.{judge_hit, judge_next}
use Rattle.large_table.specs.Words.{TableOf}
use Rattle.large_table.specs.WordsLaws.{formed_table}
use Rattle.large_images.specs.Images.{Classes}
use Rattle.large_reduction.specs.ReductionCall.{first_descent, first_beyond, first_different, class_rows, merge_rows}
use Rattle.large_reduction.proofs.ReductionCallLaws.{finds, misses, classes_by}
use Rattle.large_reduction.proofs.judge_classes.Goals as goal
use Rattle.large_reduction.proofs.judge_classes.Lts as lts
use Rattle.large_reduction.proofs.judge_classes.Reads as reads
use Rattle.large_reduction.proofs.judge_classes.Tie as tie

-- what the rows after the first k say
abbrev rest : lts.Start tie.the-claims reads.Pre reads.Post tie.handed_clauses → ℕ → Answer
rest s k = judge (drop k (merge_rows s.args.game.now s.args.reduced.now s.args.classes.now s.args.certificate.now)) []

abbrev start1 : lts.Else1 tie.the-claims reads.Pre reads.Post tie.handed_clauses → lts.Start tie.the-claims reads.Pre reads.Post tie.handed_clauses
start1 c = search

abbrev start2 : lts.Else2 tie.the-claims reads.Pre reads.Post tie.handed_clauses → lts.Start tie.the-claims reads.Pre reads.Post tie.handed_clauses
start2 c = search

abbrev start3 : lts.Else3 tie.the-claims reads.Pre reads.Post tie.handed_clauses → lts.Start tie.the-claims reads.Pre reads.Post tie.handed_clauses
start3 c = search

abbrev start4 : lts.Else4 tie.the-claims reads.Pre reads.Post tie.handed_clauses → lts.Start tie.the-claims reads.Pre reads.Post tie.handed_clauses
start4 c = search

clean1 : (c : lts.Else1 tie.the-claims reads.Pre reads.Post tie.handed_clauses) → rest (start1 c) 0 ≡ rest (start1 c) 1
unfolding merge_rows class_rows first_descent
clean1 c = judge_next _ _ _ (misses c.first_descent-descent.ensures c.if-descent-merge.false)

clean2 : (c : lts.Else2 tie.the-claims reads.Pre reads.Post tie.handed_clauses) → rest (start2 c) 0 ≡ rest (start2 c) 2
unfolding merge_rows class_rows
clean2 c = clean1 c.before ∙ judge_next _ _ _ (ap not (eq-eqb _ _ c.if-classes-merge.false))

clean3 : (c : lts.Else3 tie.the-claims reads.Pre reads.Post tie.handed_clauses) → rest (start3 c) 0 ≡ rest (start3 c) 3
unfolding merge_rows class_rows first_beyond
clean3 c = clean2 c.before.before ∙ judge_next _ _ _ (misses c.first_at_least-beyond.ensures c.if-beyond-merge.false)

clean4 : (c : lts.Else4 tie.the-claims reads.Pre reads.Post tie.handed_clauses) → rest (start4 c) 0 ≡ rest (start4 c) 4
unfolding merge_rows class_rows first_different
clean4 c = clean3 c.before.before ∙ judge_next _ _ _ (misses c.first_different-different.ensures c.if-different-merge.false)

tables : (s : lts.Start tie.the-claims reads.Pre reads.Post tie.handed_clauses) → let a = s.args in
    TableOf a.game.now (vertex_count a.game.now) (table_edges a.game.now)
    × TableOf a.reduced.now (vertex_count a.reduced.now) (table_edges a.reduced.now)
tables s = (formed_table s.args.game.now s.requires.0, formed_table s.args.reduced.now s.requires.1)

classes : (c : lts.Else3 tie.the-claims reads.Pre reads.Post tie.handed_clauses) → let a = (start3 c).args in Classes a.classes.now (vertex_count a.game.now) (vertex_count a.reduced.now)
classes c = classes_by _ _ _ c.if-classes-merge.false (misses c.first_at_least-beyond.ensures c.if-beyond-merge.false)

pub first_descent-descent-requires : goal.first_descent-descent-requires
first_descent-descent-requires c = (tables c.before.before.before.before.before.before.before.before.before).1

pub returns-then-descent-merge : goal.returns-then-descent-merge
unfolding merge_rows class_rows first_descent
returns-then-descent-merge c = let e = c.first_descent-descent.ensures in
    rw c.refused.ensures (ap (refused 97) e ∙ sym (judge_hit _ _ _ (finds e c.if-descent-merge.true)))

pub returns-then-classes-merge : goal.returns-then-classes-merge
unfolding merge_rows class_rows
returns-then-classes-merge c = rw c.refused-then-classes-merge.ensures (sym (clean1 c.before.before.before ∙ judge_hit _ _ _ (ap not (ne_eqb _ _ c.if-classes-merge.true))))

pub returns-then-beyond-merge : goal.returns-then-beyond-merge
unfolding merge_rows class_rows first_beyond
returns-then-beyond-merge c = let e = c.first_at_least-beyond.ensures in
    rw c.refused-then-beyond-merge.ensures (ap (refused 99) e ∙ sym (clean2 c.before.before.before.before ∙ judge_hit _ _ _ (finds e c.if-beyond-merge.true)))

pub first_different-different-requires : goal.first_different-different-requires
first_different-different-requires c = let t = tables (start3 c.before) in (t.0, t.1, classes c.before)

pub returns-then-different-merge : goal.returns-then-different-merge
unfolding merge_rows class_rows first_different
returns-then-different-merge c = let e = c.first_different-different.ensures in
    rw c.refused-then-different-merge.ensures (ap (refused 100) e ∙ sym (clean3 c.before.before.before.before ∙ judge_hit _ _ _ (finds e c.if-different-merge.true)))

pub judge_images-requires : goal.judge_images-requires
judge_images-requires c = let t = tables (start4 c.before) in record { tables = (t.0, t.1, classes c.before.before.before); sizes = (refl, refl, refl, refl) }

pub returns : goal.returns
unfolding merge_rows class_rows
returns c = c.judge_images.ensures ∙ sym (clean4 c.before.before)
