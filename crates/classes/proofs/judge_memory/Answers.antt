-- Each way out is a row of the memory's table of refusals, or none of them.
use mathlib.Core.Path.{◌≡◌, sym, ◌∙◌}
use mathlib.Core.Bool.{false}
use lib.Dec.{ltb}
use borrow.Author.Tests.{lt-ltb, le-ltb}
use Rattle.table.specs.AnswersLaws.{judge_hit, judge_next, judge_clean}
use Rattle.marks.specs.Marks.{marks_length}
use Rattle.classes.proofs.judge_memory.Goals as goal
use Rattle.classes.proofs.judge_memory.Lts as lts
use Rattle.classes.proofs.judge_memory.Reads as reads
use Rattle.classes.proofs.judge_memory.Tie as tie

-- marks, spare and class words are long enough
marks_fit : (c : lts.Else1 tie.the-claims reads.Pre reads.Post) → let a = c.args in ltb a.marks (marks_length a.n) ≡ false
marks_fit c = le-ltb _ _ (rw c.length_for-needed.ensures at c.if-marks-needed.false)

spare_fits : (c : lts.Else2 tie.the-claims reads.Pre reads.Post) → let a = c.args in ltb a.spare (marks_length a.n) ≡ false
spare_fits c = le-ltb _ _ (rw c.length_for-needed.ensures at c.if-spare-needed.false)

pub returns-then-marks-needed : goal.returns-then-marks-needed
returns-then-marks-needed c = let l = c.length_for-needed.ensures in
    rw (c.refused.ensures, l) (sym (judge_hit _ _ _ (lt-ltb _ _ (rw l at c.if-marks-needed.true))))

pub returns-then-spare-needed : goal.returns-then-spare-needed
returns-then-spare-needed c = let l = c.length_for-needed.ensures in
    rw (c.refused-then-spare-needed.ensures, l) (sym (judge_next _ _ _ (marks_fit c.before.before) ∙ judge_hit _ _ _ (lt-ltb _ _ (rw l at c.if-spare-needed.true))))

pub returns-then-classes-n : goal.returns-then-classes-n
returns-then-classes-n c = rw c.refused-then-classes-n.ensures
    (sym (judge_next _ _ _ (marks_fit c.before.before.before) ∙ judge_next _ _ _ (spare_fits c.before.before) ∙ judge_hit _ _ _ (lt-ltb _ _ c.if-classes-n.true)))

pub returns : goal.returns
returns c = sym (judge_clean _ _ (marks_fit c.before.before, (spare_fits c.before, (le-ltb _ _ c.if-classes-n.false, tt))))
