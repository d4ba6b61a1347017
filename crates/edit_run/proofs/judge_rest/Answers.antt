-- A case for each way out.
use Rattle.std.proofs.Common.{refl, sym, ap, ◌∙◌, arith}
use Rattle.table.specs.Acceptance.{acceptance_answer}
use borrow.Author.Tests.{ltb-true, ltb-false}
use Rattle.edit_run.proofs.judge_rest.Goals as goal

pub returns-then-done-k : goal.returns-then-done-k
returns-then-done-k c = record {
  stopped = λ h. refl;
  over = λ h. absurd (omega (arith, c.requires, c.if-done-k.true));
  outside = λ h l. absurd (omega (arith, c.if-done-k.true));
}

pub bounds-trace-done : goal.bounds-trace-done
bounds-trace-done c = omega (arith, c.requires, ltb-true _ _ (sym c.requires.3 ∙ c.if-more.true), c.if-done-k.false)

pub returns-then-more : goal.returns-then-more
returns-then-more c =
    let more = ltb-true _ _ (sym c.requires.3 ∙ c.if-more.true) in
    record {
      stopped = λ h. absurd (omega (arith, c.if-done-k.false));
      over = λ h. absurd (omega (arith, more, c.if-done-k.false));
      outside = λ h l. ap acceptance_answer c.refused.ensures;
    }

pub returns : goal.returns
returns c =
    let none = ltb-false _ _ (sym c.requires.3 ∙ c.if-more.false) in
    record {
      stopped = λ h. refl;
      over = λ h. refl;
      outside = λ h l. absurd (omega (arith, none));
    }
