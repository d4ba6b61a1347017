-- Invariant: the search from i on answers as the whole search.
use native.Mathlib.Nat.{le_refl}
use mathlib.Core.Path.{sym, ◌∙◌}
use Rattle.theory.proofs.Logic.RangeLaws.{from_in, from_end, from_step}
use Rattle.marks.specs.MarkSearch.{search_ends}
use Rattle.marks.proofs.test.some_ends.Goals as goal

pub finds-requires : goal.finds-requires
finds-requires c = let p = c.requires in
    record { end_in_bounds = p.end_in_bounds.1; by_index = rw c.from.ensures (λ k. p.reaches c.loop-i.i k c.loop-i.auto.i c.loop-i-test.true) }

pub loop-i-preserved : goal.loop-i-preserved
unfolding search_ends
loop-i-preserved c = c.loop-i.invariant ∙ from_step _ _ _ (rw (c.finds.ensures, c.from.ensures) at c.if-finds-found.false)

pub returns-then-finds-found : goal.returns-then-finds-found
unfolding search_ends
returns-then-finds-found c =
    sym (c.loop-i.invariant ∙ from_in _ _ _ _ (le_refl _) c.loop-i-test.true (rw (c.finds.ensures, c.from.ensures) at c.if-finds-found.true))

pub returns : goal.returns
returns c = sym (c.loop-i.invariant ∙ from_end _ _ _ c.loop-i-test.false)
