-- Rows 15 and 16.
use mathlib.Core.Path.{sym, ◌∙◌}
use borrow.Author.Tests.{lt-ltb, le-ltb}
use Rattle.table.specs.AnswersLaws.{judge_hit, judge_next, judge_clean}
use Rattle.plan.specs.Acceptance.{plan_rows}
use Rattle.plan.proofs.judge_indexed.Goals as goal

pub returns-then-lacking-p : goal.returns-then-lacking-p
unfolding plan_rows
returns-then-lacking-p c = let f = c.first_lacking-lacking.ensures in
    rw (c.refused.ensures, f) (sym (judge_hit _ _ _ (lt-ltb _ _ (rw f at c.if-lacking-p.true))))

pub returns-then-returning-p : goal.returns-then-returning-p
unfolding plan_rows
returns-then-returning-p c = let f = c.first_lacking-lacking.ensures in
    let h = c.first_return-returning.ensures in
    rw (c.refused-then-returning-p.ensures, h) (sym (judge_next _ _ _ (le-ltb _ _ (rw f at c.if-lacking-p.false)) ∙ judge_hit _ _ _ (lt-ltb _ _ (rw h at c.if-returning-p.true))))

pub returns : goal.returns
unfolding plan_rows
returns c = let f = c.first_lacking-lacking.ensures in
    let h = c.first_return-returning.ensures in
    sym (judge_clean _ _ (le-ltb _ _ (rw f at c.if-lacking-p.false), (le-ltb _ _ (rw h at c.if-returning-p.false), tt)))
