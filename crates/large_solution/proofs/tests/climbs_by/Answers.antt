-- Each test of the definition in its turn.
use mathlib.Core.Path.{sym, ap, ◌∙◌}
use mathlib.Core.Bool.{not}
use borrow.Author.Tests.{lt-ltb, le-ltb, le-leb, lt-leb, eq-eqb, ne_eqb}
use Rattle.theory.proofs.Logic.BoolsLaws.{not_in, and_first, and_one, or_left, or_first}
use Rattle.large_solution.specs.Places.{climbs_by}
use Rattle.large_solution.proofs.tests.climbs_by.Goals as goal

pub returns-then-end-b : goal.returns-then-end-b
unfolding climbs_by
returns-then-end-b c = sym (or_left _ (lt-ltb _ _ c.if-end-b.true))

pub returns-then-b-a : goal.returns-then-b-a
unfolding climbs_by
returns-then-b-a c = sym (or_first _ (le-ltb _ _ c.if-end-b.false) ∙ and_first _ (lt-leb _ _ c.if-b-a.true))

pub returns-then-p-winner : goal.returns-then-p-winner
unfolding climbs_by
returns-then-p-winner c = sym (or_first _ (le-ltb _ _ c.if-end-b.false)
    ∙ and_one _ (le-leb _ _ c.if-b-a.false) ∙ and_first _ (ap not (eq-eqb _ _ c.if-p-winner.true)))

pub returns : goal.returns
unfolding climbs_by
returns c = sym (or_first _ (le-ltb _ _ c.if-end-b.false)
    ∙ and_one _ (le-leb _ _ c.if-b-a.false) ∙ and_one _ (not_in (ne_eqb _ _ c.if-p-winner.false)))
