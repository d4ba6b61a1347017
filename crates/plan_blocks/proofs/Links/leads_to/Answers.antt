-- No link before t leads there: the rest of the search equals the whole.
use native.Mathlib.Nat.{le_refl}
use mathlib.Core.Path.{refl, sym, ◌∙◌}
use Rattle.theory.proofs.Logic.RangeLaws.{from_in, from_step, from_end}
use Rattle.index.specs.Index.{among}
use Rattle.plan_blocks.specs.Refining.{leads_to}
use Rattle.plan_blocks.proofs.Links.leads_to.Goals as goal

pub loop-t-init : goal.loop-t-init
unfolding leads_to among
loop-t-init c = rw (c.word_at-t.ensures, c.word_at-t-end.ensures, c.word_at-block.ensures) refl

pub returns-then-numbered : goal.returns-then-numbered
returns-then-numbered c =
    let here = rw (c.word_at-w.ensures, c.from.ensures) at c.numbered.ensures in
    sym (c.loop-t.invariant ∙ from_in _ _ _ c.loop-t.t (le_refl c.loop-t.t) c.loop-t-test.true (sym here ∙ c.if-numbered.true))

pub loop-t-preserved : goal.loop-t-preserved
loop-t-preserved c =
    let here = rw (c.word_at-w.ensures, c.from.ensures) at c.numbered.ensures in
    c.loop-t.invariant ∙ from_step _ _ _ (sym here ∙ c.if-numbered.false)

pub returns : goal.returns
returns c = sym (c.loop-t.invariant ∙ from_end _ _ _ c.loop-t-test.false)
