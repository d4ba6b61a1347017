-- Invariant: the first from j on is the first from k on.
use mathlib.Core.Path.{sym, ◌∙◌}
use native.Mathlib.Omega.{arith}
use Rattle.theory.proofs.Logic.RangeLaws.{first_step, first_hit, first_end_lem}
use Rattle.edit_rules.proofs.listing.find_edge.Goals as goal

pub loop-k-preserved : goal.loop-k-preserved
loop-k-preserved c = c.loop-k.invariant ∙ first_step _ c.loop-k.k _ c.loop-k-test.true (sym c.leads_so.ensures ∙ c.if-leads_so.false)

pub returns-then-leads_so : goal.returns-then-leads_so
returns-then-leads_so c = sym (c.loop-k.invariant ∙ first_hit _ _ _ c.loop-k-test.true (sym c.leads_so.ensures ∙ c.if-leads_so.true))

pub returns : goal.returns
returns c = sym (c.loop-k.invariant ∙ first_end_lem _ _ _ c.loop-k-test.false ∙ omega (arith, c.requires.1))
