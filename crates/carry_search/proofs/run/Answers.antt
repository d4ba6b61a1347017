-- The pairs below k are done.
use mathlib.Core.Logic.{inl, inr}
use Rattle.carry_search.specs.RunLaws.{runs_start, runs_expandable, runs_next, runs_over, runs_end}
use Rattle.carry_search.proofs.run.Goals as goal

pub loop-k-init : goal.loop-k-init
loop-k-init c = runs_start _ _ _ _ _ _ _ _ c.requires.readable _ c.requires.w_bound.0 _ c.requires.w_bound.1

pub expand-counts-requires-clause-expandable : goal.expand-counts-requires-clause-expandable
expand-counts-requires-clause-expandable c = runs_expandable _ _ _ _ _ _ _ _ _ _ _ _ c.loop-k.invariant _ c.loop-k-test.true

pub returns-then-counts-gt-POSITIONS : goal.returns-then-counts-gt-POSITIONS
returns-then-counts-gt-POSITIONS c = runs_over _ _ _ _ _ _ _ _ _ _ _ _ c.loop-k.invariant _ _ c.loop-k-test.true c.expand-counts.ensures
    elim c.then-counts-gt-POSITIONS.either [ inl a ↦ inl a | inr b ↦ inr b.1 ]

pub loop-k-preserved : goal.loop-k-preserved
loop-k-preserved c = runs_next _ _ _ _ _ _ _ _ _ _ _ _ c.loop-k.invariant _ _ c.loop-k-test.true c.expand-counts.ensures
    (record { few_pairs = c.if-counts-gt-POSITIONS.false; few_links = c.if-counts-gt-LINKS.false })

pub returns : goal.returns
returns c = runs_end _ _ _ _ _ _ _ _ _ _ _ _ c.loop-k.invariant c.loop-k-test.false
