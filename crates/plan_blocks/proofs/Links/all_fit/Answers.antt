-- The numbers fit at each position before u.
use native.Mathlib.Omega.{arith}
use mathlib.Core.Path.{sym, ◌∙◌}
use Rattle.theory.proofs.Logic.BoolsLaws.{So_not, clash}
use Rattle.theory.proofs.Logic.RangeLaws.{all_in, all_out}
use Rattle.plan_blocks.proofs.Links.all_fit.Goals as goal

pub returns-then-not-fits : goal.returns-then-not-fits
returns-then-not-fits c = sym (So_not (λ t. clash ((all_out t).at c.loop-u.u c.loop-u-test.true) (sym c.fits.ensures ∙ c.if-not-fits.true)))

pub returns : goal.returns
returns c = sym (all_in _ _ (λ k h. c.loop-u.invariant k (omega (arith, c.loop-u-test.false))))
