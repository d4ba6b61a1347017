-- Invariant: the search from w on finds what the whole search finds.
use mathlib.Core.Path.{◌≡◌, refl, sym, ◌∙◌}
use native.Mathlib.Omega.{arith}
use Rattle.theory.proofs.Logic.RangeLaws.{first_end_lem}
use Rattle.theory.specs.Classes.Reduction.{lowest}
use Rattle.classes.specs.MemberSearchLaws.{first_part, first_rest}
use Rattle.classes.proofs.numbering.lowest_member.Goals as goal

pub loop-w-init : goal.loop-w-init
unfolding lowest
loop-w-init c = (omega arith, refl)

pub returns-then-low-end : goal.returns-then-low-end
returns-then-low-end c =
    sym (c.loop-w.invariant.1 ∙ first_part _ _ _ _ _ (omega arith) (omega arith) c.lowest_between-low.ensures c.if-low-end.true)

pub loop-w-preserved : goal.loop-w-preserved
loop-w-preserved c =
    (omega arith, c.loop-w.invariant.1 ∙ first_rest _ _ _ _ _ (omega arith) (omega arith) c.lowest_between-low.ensures c.if-low-end.false)

pub returns : goal.returns
returns c = let e : c.loop-w.w ≡ c.args.n = omega arith in sym (c.loop-w.invariant.1 ∙ first_end_lem _ _ _ c.loop-w-test.false ∙ e)
